-- A law that the searches through cells cite.
mod Cells
