-- The words that decoding wrote are those of the record's entries, or its refusal is the record's own.
use Prim.Native.Nat.{◌*◌, ◌≤◌}
use mathlib.Core.Path.{◌≡◌, ap, subst⁻¹, ◌∙◌}
use native.Mathlib.Omega.{arith}
use Rattle.limits.specs.Capacity.{most_units, most_candidates, most_cells}
use Rattle.limits.specs.Edition.{numbers_of}
use Rattle.limits.specs.Sizes.{entry_words}
use Rattle.limits.specs.declared.edition.Limits.{Limits}
use Rattle.record.specs.Layout.{limits_of}
use Rattle.record.specs.declared.trailer.Trailer.{Trailer}
use Rattle.record.proofs.Accepted.{own_moderate}
use Rattle.printing.specs.Listing.{refused_text, listing_of}
use Rattle.text.proofs.Putting.{renamed}
use Rattle.printing.specs.Inner.InWords.{decoded_in, AllWhole}
use Rattle.printing.proofs.Decoded.{Ample, accepted_listing, refused_listing}
use Rattle.printing.proofs.render.put_listing.Goals as goal

own-arrays : Ample most_cells most_cells (most_candidates * entry_words most_units)
own-arrays = record { values = omega arith; marks = omega arith; entries = omega arith }

pub trailer_of-requires : goal.trailer_of-requires
trailer_of-requires c = (accepted_listing own-arrays c.decode.ensures c.in-Ok.count c.in-Ok.is).long

pub put_decoded-requires : goal.put_decoded-requires
put_decoded-requires c =
    let own = accepted_listing own-arrays c.decode.ensures c.in-Ok.count c.in-Ok.is in
    let numbers : c.limits_of-limits.result ≡ limits_of c.args.«record».now =
    c.limits_of-limits.ensures ∙ ap (λ (t : Trailer). numbers_of t.edition) c.trailer_of.ensures in
    let few : c.limits_of-limits.result.units ≤ most_units =
    subst⁻¹ (λ (l : Limits). l.units ≤ most_units) numbers (own_moderate c.args.«record».now).units in
    record {
      most_le_most_units = (few, omega (arith, own.few, c.requires));
      all_whole = subst⁻¹ (λ (l : Limits). AllWhole l.units c.in-Ok.count c.decode.new.out) numbers own.whole;
    }

pub returns-in-Ok : goal.returns-in-Ok
returns-in-Ok c =
    let own = accepted_listing own-arrays c.decode.ensures c.in-Ok.count c.in-Ok.is in
    let numbers : c.limits_of-limits.result ≡ limits_of c.args.«record».now =
    c.limits_of-limits.ensures ∙ ap (λ (t : Trailer). numbers_of t.edition) c.trailer_of.ensures in
    let lines =
    subst⁻¹
    (λ (l : Limits). decoded_in (entry_words l.units) c.in-Ok.count c.decode.new.out ≡ listing_of c.args.«record».now)
    numbers
    own.lines in
    renamed lines (omega (arith, own.few, c.put_decoded.ensures.puts.short)) c.put_decoded.ensures

pub returns-in-Err : goal.returns-in-Err
returns-in-Err c =
    let own = refused_listing own-arrays c.decode.ensures c.in-Err.refusal c.in-Err.is in
    renamed (ap refused_text c.from.ensures ∙ own) (omega (arith, c.put_refused.ensures.puts.short)) c.put_refused.ensures
