-- The records are replayed one by one.
use Rattle.std.proofs.Common.{◌≡◌, ℕ, Bool, nat_eq, List, length, Option, Some, None, refl, sym, ◌∙◌, ap, subst, arith}
use Rattle.std.specs.Option.{MatchOption, IfSome}
use Rattle.std.specs.List.{IsDistinct}
use Rattle.std.specs.Map.{keys_of}
use Rattle.std.specs.List.Sorted.{IsPermutation}
use Rattle.std.proofs.lemmas.List.Sorted.{IsPermutation-map}
use Rattle.std.proofs.lemmas.Map.Keys.{IsDistinct-IsPermutation}
use Rattle.newt_host.specs.Moments.{Moment, changes}
use Rattle.newt_host.specs.Outside.{Outside, Touches}
use Rattle.newt_spec_image.specs.Records.{and_then, with_first}
use Rattle.newt_spec_image.specs.Pages.{Pages, Change, change_in, after, pages_after}
use Rattle.newt_journal.specs.Journal.{Stands}
use Rattle.newt_journal.specs.declared.journal.Journal.{Journal}
use Rattle.newt_journal.proofs.Elsewhere.{stands_elsewhere}
use Rattle.newt_pagelog.specs.Kept.{Entries, AreSound, page_in}
use Rattle.newt_pagelog.proofs.Maps.{turned}

-- a journal stands on after what changed nothing
pub stands-on : (told : Bool) (j : Journal) (old new : Outside) → Touches j.unit old new → new.now ≡ old.now → Stands told j old → Stands told j new
stands-on told j old new touches moment stands = stands_elsewhere told j old new touches.cards (λ tells. ap (λ (m : Moment). changes j.unit m) moment) stands

-- the map of what is left, once a record was read
pub step-read : (rest : Option (List (List ℕ))) (payload : List ℕ) (change : Change) (live : Pages) → change_in payload ≡ Some change
    → and_then (with_first payload rest) (λ ps. pages_after ps live) ≡ and_then rest (λ ps. pages_after ps (after change live))
step-read None payload change live says = refl
step-read (Some ps) payload change live says = ap (λ (o : Option Change). and_then o (λ c. pages_after ps (after c live))) says

pub step-none : (rest : Option (List (List ℕ))) (payload : List ℕ) (live : Pages) → change_in payload ≡ None → and_then (with_first payload rest) (λ ps. pages_after ps live) ≡ None
step-none None payload live says = refl
step-none (Some ps) payload live says = ap (λ (o : Option Change). and_then o (λ c. pages_after ps (after c live))) says

-- no two entries have one number, in any order
pub unique-reordered : (old new : Entries) → IsPermutation old new → IsDistinct nat_eq (keys_of old) → IsDistinct nat_eq (keys_of new)
unique-reordered old new moved unique = IsDistinct-IsPermutation nat_eq turned (keys_of old) (keys_of new) (IsPermutation-map (λ (e : ℕ × List ℕ). e.0) old new moved) unique

pub sound-reordered : (old new : Entries) → IsPermutation old new → length new ≡ length old → ((q : ℕ) → page_in new q ≡ page_in old q) → AreSound old → AreSound new
sound-reordered old new moved same_len same s = record {
  unique = unique-reordered old new moved s.unique;
  few = omega (arith, same_len, s.few);
  small = λ q page e. s.small q page (sym (same q) ∙ e);
  whole = λ q page e. s.whole q page (sym (same q) ∙ e);
}

-- what is said of an option, at what it is
pub at_some : {A : Type 0} (P : Type 0) (Q : A → Type 0) (o : Option A) (x : A) → o ≡ Some x → MatchOption o P Q → Q x
at_some P Q o x is m = subst (λ o. MatchOption o P Q) is m

pub at_none : {A : Type 0} (P : Type 0) (Q : A → Type 0) (o : Option A) → o ≡ None → MatchOption o P Q → P
at_none P Q o is m = subst (λ o. MatchOption o P Q) is m

pub if_some : {A : Type 0} (Q : A → Type 0) (o : Option A) (x : A) → o ≡ Some x → IfSome o Q → Q x
if_some Q o x is m = subst (λ o. IfSome o Q) is m
