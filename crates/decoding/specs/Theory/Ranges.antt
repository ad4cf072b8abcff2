-- How many frames, nuclei and boundaries a record of an edition may have, and how large its figures are.
use Rattle.paths.specs.Theory.Bounded.{Ranges}
use Rattle.limits.specs.Common.{largest_figure, largest_cost}
use Rattle.limits.specs.declared.edition.Limits.{Limits}

-- "per_frame and insertion_llr (each within ±1,000)", "each within ±1,000,000", "each entry from −1,000,000 to 0"
abbrev pub ranges_of : Limits → Ranges
ranges_of l =
    record {
      frames = l.frames;
      nuclei = l.nuclei;
      boundaries = l.boundaries;
      per_frame = largest_cost;
      insertion = largest_cost;
      score = largest_figure;
      duration = largest_figure;
    }
