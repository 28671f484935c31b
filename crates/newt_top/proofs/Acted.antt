-- What is refused, worked by hand: a sync once a byte of the reply is out, and a device that is
-- attached before the input was taken.
use Rattle.std.proofs.Common.{◌≡◌, ℕ, List, [], ◌∷◌, ◌++◌, refl, sym, ◌∙◌, ap}
use Rattle.newt_host.specs.Moments.{Attached, Change, Moment, On, Printed, Synced, Took, changes, output, taken}
use Rattle.newt_host.specs.Outside.{Outside}
use Rattle.newt_host.proofs.Extending.{extends-always, extends-trans}
use Rattle.newt_script_session.specs.Reading.{goes_on}
use Rattle.newt_top.specs.Reading.{ActsBeforeReply}
use Rattle.newt_top.specs.Restoring.{AttachedAfter}

-- of the reply `ok` the first byte is out
abbrev begun : Moment
begun = Printed 111 ∷ []

acts_too_late : ActsBeforeReply [] (On 0 Synced ∷ begun) → ⊥
acts_too_late acts = elim (acts 0) [
  | goes_on event now so_far due ↦ let none : output begun ≡ [] = due (λ same. absurd (cc)) in absurd (cc)
]

-- unit 0 got its device, and then a byte was taken of the input
abbrev attached_early : List ℕ → Moment
attached_early bytes = Took (1 ∷ []) ∷ On 0 (Attached bytes) ∷ []

attached_too_early : (names : List (List ℕ)) (old new : Outside) (bytes : List ℕ) → old.now ≡ [] → new.now ≡ attached_early bytes → AttachedAfter names old new → ⊥
attached_too_early names old new bytes none is b =
    let e = extends-trans (extends-always b.attached.still) b.attached.after in
    go e.more b.read.now (sym is ∙ e.is) (sym b.all ∙ ap taken is) (b.same.changes refl 0 ∙ ap (changes 0) none)
  where
    -- the moment when the input was read: one that has taken the byte, and at which nothing had happened to the device
    go : (more read : Moment) → attached_early bytes ≡ more ++ read → taken read ≡ 1 ∷ [] → changes 0 read ≡ [] → ⊥
    go [] read e all fresh = let there : Attached bytes ∷ [] ≡ [] = ap (λ (m : Moment). changes 0 m) e ∙ fresh in absurd (cc)
    go (event ∷ []) read e all fresh =
        let rest : On 0 (Attached bytes) ∷ [] ≡ read = cc in
        let early : [] ≡ 1 ∷ [] = ap taken rest ∙ all in
        absurd (cc)
    go (event ∷ next ∷ more) read e all fresh = let rest : [] ≡ more ++ read = cc in nothing more read rest all
      where
        nothing : (more read : Moment) → [] ≡ more ++ read → taken read ≡ 1 ∷ [] → ⊥
        nothing [] read e all = let early : [] ≡ 1 ∷ [] = ap taken e ∙ all in absurd (cc)
        nothing (event ∷ more) read e all = absurd (cc)
