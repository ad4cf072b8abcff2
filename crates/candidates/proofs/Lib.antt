-- The rules of the candidates, one candidate after the other.
mod Rules
