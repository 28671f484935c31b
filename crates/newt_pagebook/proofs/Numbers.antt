-- The numbers after a change are those of the pages after it.
use Rattle.std.proofs.Common.{◌≡◌, ℕ, ◌==◌, Bool, true, false, cond, not, ◌&&◌, ◌||◌, List, [], ◌∷◌, Option, Some, None, refl, sym, ◌∙◌, ap}
use Rattle.std.specs.Cmp.{nat_cmp_total}
use Rattle.std.specs.FinMap as map
use Rattle.std.specs.FinSet as set
use Rattle.std.specs.Option.{is_some}
use Rattle.newt_spec_image.specs.Pages.{Pages, Put, Change, after, with_puts, without_numbers}
use Rattle.newt_pagebook.specs.Book.{Numbers, with_put_numbers, without_deleted, changed_numbers}
use Rattle.newt_pagebook.proofs.Tests.{same_test}
use Rattle.newt_pagebook.proofs.Changes.{get_insert, get_remove}

pub contains_insert : (s : Numbers) (n q : ℕ) → set.contains (set.insert s n) q ≡ ((q == n) || set.contains s q)
contains_insert s n q = set.contains-insert nat_cmp_total s n q ∙ ap (λ (b : Bool). b || set.contains s q) (same_test q n)

pub contains_remove : (s : Numbers) (n q : ℕ) → set.contains (set.remove s n) q ≡ (not (q == n) && set.contains s q)
contains_remove s n q = set.contains-remove nat_cmp_total s n q ∙ ap (λ (b : Bool). not b && set.contains s q) (same_test q n)

put_named : (puts : List Put) (m : Pages) (s : Numbers) → ((q : ℕ) → map.contains_key m q ≡ set.contains s q) → (q : ℕ) → map.contains_key (with_puts puts m) q ≡ set.contains (with_put_numbers puts s) q
put_named [] m s same q = same q
put_named (p ∷ puts) m s same q = put_named puts (map.insert m p.0 p.1) (set.insert s p.0)
    (λ k. ap is_some (get_insert m p.0 p.1 k) ∙ some_cond (k == p.0) p.1 (map.get m k) ∙ ap (λ (b : Bool). (k == p.0) || b) (same k) ∙ sym (contains_insert s p.0 k)) q where
      some_cond : (b : Bool) (x : List ℕ) (o : Option (List ℕ)) → is_some (cond b (Some x) o) ≡ (b || is_some o)
      some_cond true x o = refl
      some_cond false x o = refl

pub gone_named : (ns : List ℕ) (m : Pages) (s : Numbers) → ((q : ℕ) → map.contains_key m q ≡ set.contains s q) → (q : ℕ) → map.contains_key (without_numbers ns m) q ≡ set.contains (without_deleted ns s) q
gone_named [] m s same q = same q
gone_named (n ∷ ns) m s same q = gone_named ns (map.remove m n) (set.remove s n)
    (λ k. ap is_some (get_remove m n k) ∙ none_cond (k == n) (map.get m k) ∙ ap (λ (b : Bool). not (k == n) && b) (same k) ∙ sym (contains_remove s n k)) q where
      none_cond : (b : Bool) (o : Option (List ℕ)) → is_some (cond b None o) ≡ (not b && is_some o)
      none_cond true o = refl
      none_cond false o = refl

pub changed_named : (change : Change) (live : Pages) (numbers : Numbers) → ((q : ℕ) → map.contains_key live q ≡ set.contains numbers q) → (q : ℕ) → map.contains_key (after change live) q ≡ set.contains (changed_numbers change numbers) q
changed_named change live numbers same q = gone_named change.deletes (with_puts change.puts live) (with_put_numbers change.puts numbers) (put_named change.puts live numbers same) q
