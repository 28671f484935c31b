-- When something is done to a device.
use Rattle.std.proofs.Common.{◌≡◌, ◌⊎◌, inl, inr, ℕ, suc, ◌≤◌, Bool, List, [], ◌∷◌, ◌++◌, length, refl, sym, ◌∙◌, ap, append_assoc, arith}
use Rattle.std.proofs.lemmas.List.{length-append}
use Rattle.newt_host.specs.Moments.{Event, Moment, Always, here, later, On, Printed, Took, output as printed}
use Rattle.newt_host.specs.Outside.{PrintsSome}
use Rattle.newt_host.proofs.Moments.{Always-map}
use Rattle.newt_spec_script.specs.Rows.{output_of, Row}
use Rattle.newt_spec_whole.specs.Whole.{Whole}
use Rattle.newt_script_session.specs.Reading.{ActsInTime, start, goes_on}
use Rattle.newt_script_session.specs.Stream.{put_out}
use Rattle.newt_script_session.proofs.Crashing.{both_put, none_put, prints_changes}
use Rattle.newt_script_session.proofs.Reading.{only_always, only_append, only_map, only_none}
use Rattle.newt_script_session.proofs.Rows.{output_append, output_none}

module _ (shows : Bool) where
  pub acts_start : (rows : List (Row Whole)) (now : Moment) → ActsInTime shows rows now now
  acts_start rows now unit = start

  -- nothing is put out
  pub acts_quiet : (rows : List (Row Whole)) (old now : Moment) → Always (λ m. printed m ≡ printed old) old now → ActsInTime shows rows old now
  acts_quiet rows old now quiet unit = only_always (Always-map (λ m same. record {
    first = [];
    more = rows;
    split = refl;
    out = same ∙ sym (ap (λ t. printed old ++ put_out shows t) output_none ∙ none_put shows (printed old));
  }) quiet)

  -- a text is
  pub acts_printing : (rows : List (Row Whole)) (text : List ℕ) (old then now : Moment) → ActsInTime shows rows old then → Always (PrintsSome text then) then now → ActsInTime shows rows old now
  acts_printing rows text old then now acts prints unit = only_append (acts unit) (only_none (Always-map (λ m some. prints_changes text then m some unit) prints))

  -- bytes are read
  pub acts_took : (rows : List (Row Whole)) (bytes : List ℕ) (old then : Moment) → ActsInTime shows rows old then → ActsInTime shows rows old (Took bytes ∷ then)
  acts_took rows bytes old then acts unit = goes_on (Took bytes) then (acts unit) (λ differs. absurd (differs refl))

  -- rows after one another
  pub acts_both : (a b : List (Row Whole)) (old then now : Moment) → printed then ≡ printed old ++ put_out shows (output_of a) → ActsInTime shows a old then → ActsInTime shows b then now
      → ActsInTime shows (a ++ b) old now
  acts_both a b old then now put x y unit = only_append
      (only_map (λ m w. record {
        first = w.first;
        more = w.more ++ b;
        split = ap (λ (rs : List (Row Whole)). rs ++ b) w.split ∙ append_assoc w.first w.more b;
        out = w.out;
      }) (x unit))
      (only_map (λ m w. record {
        first = a ++ w.first;
        more = w.more;
        split = ap (λ (rs : List (Row Whole)). a ++ rs) w.split ∙ sym (append_assoc a w.first w.more);
        out = w.out
            ∙ (ap (λ o. o ++ put_out shows (output_of w.first)) put
            ∙ (append_assoc (printed old) (put_out shows (output_of a)) (put_out shows (output_of w.first))
            ∙ ap (λ t. printed old ++ t) (sym (ap (put_out shows) (output_append a w.first) ∙ both_put shows (output_of a) (output_of w.first)))));
      }) (y unit))

  -- from before, where nothing was put out
  pub acts_from : (rows : List (Row Whole)) (old mid now : Moment) → printed mid ≡ printed old → Always (λ m. printed m ≡ printed old) old mid → ActsInTime shows rows mid now → ActsInTime shows rows old now
  acts_from rows old mid now same quiet acts unit = only_append (acts_quiet rows old mid quiet unit) (only_map (λ m w. record {
    first = w.first;
    more = w.more;
    split = w.split;
    out = w.out ∙ ap (λ o. o ++ put_out shows (output_of w.first)) same;
  }) (acts unit))

-- ---- where nothing was put out by the end, nothing was before

step_grows : (event : Event) (m : Moment) → (printed (event ∷ m) ≡ printed m) ⊎ (suc (length (printed m)) ≤ length (printed (event ∷ m)))
step_grows (On unit change) m = inl refl
step_grows (Took bytes) m = inl refl
step_grows (Printed byte) m = let size = length-append (printed m) (byte ∷ []) in inr (omega (arith, size))

output_grows : {Q : Moment → Type 0} {old now : Moment} → Always Q old now → length (printed old) ≤ length (printed now)
output_grows (here q) = omega arith
output_grows (later event now before q) =
    let so_far = output_grows before in
    elim (step_grows event now) [
      | inl same ↦ let size = ap length same in omega (arith, so_far, size)
      | inr more ↦ omega (arith, so_far, more)
    ]

quiet_before : (event : Event) (old m : Moment) → length (printed old) ≤ length (printed m) → printed (event ∷ m) ≡ printed old → printed m ≡ printed old
quiet_before event old m grown same = elim (step_grows event m) [
  | inl stays ↦ sym stays ∙ same
  | inr more ↦ let size = ap length same in absurd (omega (arith, grown, more, size))
]

pub still_quiet : {Q : Moment → Type 0} {old now : Moment} → Always Q old now → printed now ≡ printed old → Always (λ m. Q m × (printed m ≡ printed old)) old now
still_quiet (here q) same = here (q, refl)
still_quiet {old = old} (later event now before q) same = later event now (still_quiet before (quiet_before event old now (output_grows before) same)) (q, same)
