-- The records of a journal are walked, and the first payload that has not its form is found.
use Rattle.std.proofs.Common.{arith, ◌≡◌, refl, ap, sym, ◌∙◌, subst, ℕ, ◌+◌, ◌*◌, ◌≤◌, Bool, true, false, cond, List, ◌∷◌, length, take, drop, Option, Some, None, length-take, length-drop}
use Rattle.newt_host.specs.Moments.{image as image_of}
use Rattle.newt_host.specs.Outside.{Outside}
use Rattle.newt_spec_image.specs.Records.{with_first}
use Rattle.newt_spec_image.specs.Pages.{Change, change_in, is_change, said_by}
use Rattle.newt_journal.specs.Bank.{limit_of}
use Rattle.newt_journal.specs.Journal.{Stands}
use Rattle.newt_journal.specs.Places.{first_place, payloads_from}
use Rattle.newt_journal.specs.declared.journal.Journal.{Journal}
use Rattle.newt_journal.specs.declared.reading.Found.{Found}
use Rattle.newt_journal.proofs.Steps.{bank-fits}
use Rattle.newt_pagelog.specs.Placed.{ReplaysRecord}
use Rattle.newt_spec_graph.proofs.Lists.{none-some, some-same}
use Rattle.newt_spec_check.specs.Damage.{is_unformed}
use Rattle.newt_check.specs.Gates.{first_from, unformed_in}
use Rattle.newt_check.proofs.Gates.{formed, unformed}

pub begun : (j : Journal) (at : ℕ) (img : List ℕ) → at ≡ first_place j → unformed_in j img ≡ first_from is_unformed at (limit_of j.blocks j.bank) img
begun j at img e = ap (λ n. first_from is_unformed n (limit_of j.blocks j.bank) img) (sym e)

first-some : (p : List ℕ) (o : Option (List (List ℕ))) (ps : List (List ℕ)) → with_first p o ≡ Some ps → (rest : List (List ℕ)) × (o ≡ Some rest) × (p ∷ rest ≡ ps)
first-some p None ps h = absurd (none-some ps h)
first-some p (Some rest) ps h = (rest, refl, some-same (p ∷ rest) ps h)

module _ (j : Journal) (at : ℕ) (f : Found) (img : List ℕ) (ps : List (List ℕ)) (some : payloads_from j at img ≡ Some ps)
    (found : payloads_from j at img ≡ with_first (take f.len (drop f.at img)) (payloads_from j f.next img)) where
  parts : (rest : List (List ℕ)) × (payloads_from j f.next img ≡ Some rest) × (take f.len (drop f.at img) ∷ rest ≡ ps)
  parts = first-some (take f.len (drop f.at img)) (payloads_from j f.next img) ps (sym found ∙ some)

  all : payloads_from j at img ≡ Some (take f.len (drop f.at img) ∷ parts.0)
  all = found ∙ ap (with_first (take f.len (drop f.at img))) parts.1

  pub next-some : (rest : List (List ℕ)) × (payloads_from j f.next img ≡ Some rest)
  next-some = (parts.0, parts.1)

  pub walked-unformed : is_change (take f.len (drop f.at img)) ≡ false → first_from is_unformed at (limit_of j.blocks j.bank) img ≡ Some at
  walked-unformed h = unformed at (limit_of j.blocks j.bank) img (take f.len (drop f.at img)) parts.0 all h

pub walked-formed : (told : Bool) (j : Journal) (outside : Outside) → length (image_of j.unit outside.now) ≡ outside.blocks j.unit * 4096 → Stands told j outside → (at : ℕ) (f : Found)
    → f.at ≡ at + 5 → f.next ≡ f.at + f.len → f.next ≤ j.end → (ps : List (List ℕ)) → payloads_from j at (image_of j.unit outside.now) ≡ Some ps
    → payloads_from j at (image_of j.unit outside.now) ≡ with_first (take f.len (drop f.at (image_of j.unit outside.now))) (payloads_from j f.next (image_of j.unit outside.now))
    → is_change (take f.len (drop f.at (image_of j.unit outside.now))) ≡ true
    → first_from is_unformed at (limit_of j.blocks j.bank) (image_of j.unit outside.now) ≡ first_from is_unformed f.next (limit_of j.blocks j.bank) (image_of j.unit outside.now)
walked-formed told j outside sized stands at f is_at is_next high ps some found h =
    let img = image_of j.unit outside.now in
    let inside : j.end ≤ length img = omega (arith, sized, stands.has.count, j.high, bank-fits j.blocks j.bank j.enough) in
    let size : length (take f.len (drop f.at img)) ≡ f.len = omega (arith, length-take f.len (drop f.at img), length-drop f.at img, inside, high, is_next) in
    let there : at + (5 + length (take f.len (drop f.at img))) ≡ f.next = omega (arith, size, is_at, is_next) in
    formed at (limit_of j.blocks j.bank) img (take f.len (drop f.at img)) (parts j at f img ps some found).0 (all j at f img ps some found) h
    ∙ ap (λ n. first_from is_unformed n (limit_of j.blocks j.bank) img) there

-- ---- what is replayed

change-says : (payload : List ℕ) (change : Change) → change_in payload ≡ Some change → is_change payload ≡ true
change-says payload change h = go (is_change payload) h
  where
    go : (b : Bool) → cond b (Some (said_by payload)) None ≡ Some change → b ≡ true
    go true k = refl
    go false k = absurd (none-some change k)

none-says : (payload : List ℕ) → change_in payload ≡ None → is_change payload ≡ false
none-says payload h = go (is_change payload) h
  where
    go : (b : Bool) → cond b (Some (said_by payload)) None ≡ None → b ≡ false
    go true k = absurd (none-some (said_by payload) (sym k))
    go false k = refl

pub says-change : (img : List ℕ) (old new : List (ℕ × ℕ)) (f : Found) (then : List ℕ) → then ≡ img → ReplaysRecord then (take f.len (drop f.at then)) old new → is_change (take f.len (drop f.at img)) ≡ true
says-change img old new f then same r = subst (λ (l : List ℕ). is_change (take f.len (drop f.at l)) ≡ true) same (change-says (take f.len (drop f.at then)) r.change r.says)

pub says-none : (img : List ℕ) (f : Found) (then : List ℕ) → then ≡ img → change_in (take f.len (drop f.at then)) ≡ None → is_change (take f.len (drop f.at img)) ≡ false
says-none img f then same h = subst (λ (l : List ℕ). is_change (take f.len (drop f.at l)) ≡ false) same (none-says (take f.len (drop f.at then)) h)
