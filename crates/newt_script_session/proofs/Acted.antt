-- What is refused, worked by hand: a sync while a reply is out in part, and a device that is attached
-- once input was read.
use Rattle.std.proofs.Common.{◌≡◌, ℕ, true, List, [], ◌∷◌, ◌++◌, Some, sym, ◌∙◌, ap}
use Rattle.newt_host.specs.Moments.{Attached, Moment, On, Printed, Synced, Took, changes, taken}
use Rattle.newt_host.specs.Outside.{Outside}
use Rattle.newt_host.proofs.Moments.{Always-last}
use Rattle.newt_spec_script.specs.Rows.{Row, output_of}
use Rattle.newt_spec_whole.specs.Whole.{Whole}
use Rattle.newt_spec_world.specs.Reply.{Reply}
use Rattle.newt_script_session.specs.Named.{AttachedFirst, attaching, held_by}
use Rattle.newt_script_session.specs.Reading.{ActsInTime, goes_on}

-- of the reply `ok` the first byte is out
abbrev half_out : Moment
half_out = Printed 111 ∷ []

half_is_not_whole : (first more : List (Row Whole)) (world : Whole) → (world, Reply.done) ∷ [] ≡ first ++ more → 111 ∷ [] ≡ output_of first → ⊥
unfolding output_of
half_is_not_whole [] more world split out = absurd (cc)
half_is_not_whole (row ∷ first) more world split out =
    let same : row ≡ (world, Reply.done) = cc in
    let begins : 111 ∷ [] ≡ 111 ∷ 107 ∷ 10 ∷ output_of first = out ∙ ap (λ (r : Row Whole). output_of (r ∷ first)) same in
    absurd (cc)

acts_too_early : (world : Whole) → ActsInTime true ((world, Reply.done) ∷ []) [] (On 0 Synced ∷ half_out) → ⊥
acts_too_early world acts = elim (acts 0) [
  | goes_on event now so_far due ↦ let w = due (λ same. absurd (cc)) in half_is_not_whole w.first w.more world w.split w.out
]

-- a byte was taken of the input, and then unit 0 got its device
abbrev taken_first : List ℕ → Moment
taken_first bytes = On 0 (Attached bytes) ∷ Took (1 ∷ []) ∷ []

attached_too_late : (names : List (List ℕ)) (old new : Outside) (bytes : List ℕ) → old.now ≡ [] → held_by names old 0 ≡ Some bytes → new.now ≡ taken_first bytes → AttachedFirst names old new → ⊥
attached_too_late names old new bytes none held is a = go a.after.more a.then (sym is ∙ a.after.is) ((Always-last a.still).0 ∙ ap taken none) (a.only 0 ∙ ap attaching held)
  where
    at_start : (more then : Moment) → [] ≡ more ++ then → changes 0 then ≡ Attached bytes ∷ [] → ⊥
    at_start [] then e only = let none : changes 0 then ≡ [] = ap (λ (m : Moment). changes 0 m) (sym e) in absurd (cc)
    at_start (event ∷ more) then e only = absurd (cc)

    go : (more then : Moment) → taken_first bytes ≡ more ++ then → taken then ≡ [] → changes 0 then ≡ Attached bytes ∷ [] → ⊥
    go [] then e unread only = let one : taken then ≡ 1 ∷ [] = ap taken (sym e) in absurd (cc)
    go (event ∷ []) then e unread only =
        let there : Took (1 ∷ []) ∷ [] ≡ then = cc in
        let one : taken then ≡ 1 ∷ [] = ap taken (sym there) in
        absurd (cc)
    go (event ∷ next ∷ more) then e unread only = let rest : [] ≡ more ++ then = cc in at_start more then rest only
