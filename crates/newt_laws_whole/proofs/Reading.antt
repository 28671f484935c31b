-- Commands that read an entry of the world: what the world may answer, and what the whole does then.
use Rattle.std.proofs.Common.{◌≡◌, ◌⊎◌, inl, inr, refl, ap, sym, ◌∙◌, subst, ℕ, List, [], ◌∷◌, ◌++◌, true, false, Bool, Option, Some, None, slice_set}
use Rattle.std.specs.Prelude.{is_none}
use Rattle.newt_base.specs.Refusals.{Checks, first_of}
use Rattle.newt_base.specs.declared.Refusal.{Refusal}
use Rattle.newt_base.specs.declared.Refusal.TheVariants.{Copy as NoCopy, Entry as NoEntry, Limit}
use Rattle.newt_spec_graph.proofs.Lists.{both-ways, none-some, some-same}
use Rattle.newt_spec_store.specs.Store.{Entry, Soup, Store}
use Rattle.newt_work.specs.Work.{Copy, opened}
use Rattle.newt_spec_world.specs.Answer.{answer, answered, fields, or_nil}
use Rattle.newt_spec_world.specs.Changed.{changed}
use Rattle.newt_spec_world.specs.Refused.{checks, no_unit, not_mounted, no_soup, no_entry}
use Rattle.newt_spec_world.specs.Reply.{Reply}
use Rattle.newt_spec_world.specs.Step.{Step, plain, found, thrown, halfway, world_thrown}
use Rattle.newt_spec_world.specs.World.{World, mounted_store, soup_in, entry_in, settle}
use Rattle.newt_spec_world.specs.declared.command.Command.TheVariants as command
use Rattle.newt_laws_world.proofs.Kept.{all-false}
use Rattle.newt_spec_whole.specs.Whole.{Whole, asks, copy, free_copy}
use Rattle.newt_spec_whole.specs.Refused.{entry_changed, entry_gone, no_copy, no_free_copy, no_room, whole_checks}
use Rattle.newt_spec_whole.specs.Answer.{copies_after, opened_of, put_copy, watches_after, whole_answer, whole_answered, whole_fields}
use Rattle.newt_spec_whole.specs.Events.{events}
use Rattle.newt_spec_whole.specs.Step as wholes
use Rattle.newt_spec_whole.specs.Step.{WholeStep, whole_thrown}

-- the tests of a command that reads an entry
abbrev pub entry_tests : World → ℕ → List ℕ → ℕ → Checks
entry_tests w u s uid = no_unit w u ∷ not_mounted w u ∷ no_soup w u s ∷ no_entry w u s uid ∷ []

-- ---- what the world may answer

-- It is refused; or the entry is shown; or a device failed.
abbrev pub GetsOr : World → ℕ → List ℕ → ℕ → World → Reply → Type 0
GetsOr w u s uid v r =
    ((x : Refusal) × (first_of (entry_tests w u s uid) ≡ Some x) × (v ≡ w) × (r ≡ Reply.refused x))
    ⊎ ((e : Entry) × (first_of (entry_tests w u s uid) ≡ None) × (entry_in w u s uid ≡ Some e) × (v ≡ w) × (r ≡ Reply.timed e.time e.graph))
    ⊎ ((x : ℕ) × (v ≡ world_thrown w (command.Get u s uid) x) × (r ≡ Reply.thrown x))

pub gets : (w : World) (u : ℕ) (s : List ℕ) (uid : ℕ) (v : World) (r : Reply) → settle w ≡ w → Step w (command.Get u s uid) v r → GetsOr w u s uid v r
unfolding answer checks changed fields
gets w u s uid v r settled (plain none is) = go (first_of (entry_tests w u s uid)) refl is
  where
    shown : (o : Option Entry) → is_none o ≡ false → (e : Entry) × (o ≡ Some e) × (or_nil (λ e. Reply.timed e.time e.graph) o ≡ Reply.timed e.time e.graph)
    shown None h = absurd (both-ways (sym h))
    shown (Some e) h = (e, refl, refl)

    go : (o : Option Refusal) → first_of (entry_tests w u s uid) ≡ o → answered w (command.Get u s uid) o ≡ (v, r) → GetsOr w u s uid v r
    go (Some x) h k = inl (x, h, sym (ap (λ (a : World × Reply). a.0) k), sym (ap (λ (a : World × Reply). a.1) k))
    go None h k =
        let e = shown (entry_in w u s uid) (all-false (entry_tests w u s uid) h).1.1.1.0 in
        inr (inl (e.0, h, e.1, sym (ap (λ (a : World × Reply). a.0) k) ∙ settled, sym (ap (λ (a : World × Reply). a.1) k) ∙ e.2))
gets w u s uid v r settled (found {u = x} looks has is) = absurd (none-some x looks)
gets w u s uid v r settled (thrown {u = x} next is) = inr (inr (x, next, is))
gets w u s uid v r settled (halfway moves ok next is) = absurd (both-ways moves)

-- ---- tests

found_first : (xs ys : Checks) (r : Refusal) → first_of xs ≡ Some r → first_of (xs ++ ys) ≡ Some r
found_first [] ys r e = absurd (none-some r e)
found_first ((x, true) ∷ xs) ys r e = e
found_first ((x, false) ∷ xs) ys r e = found_first xs ys r e

none_first : (xs ys : Checks) → first_of xs ≡ None → first_of (xs ++ ys) ≡ first_of ys
none_first [] ys e = refl
none_first ((x, true) ∷ xs) ys e = absurd (none-some x (sym e))
none_first ((x, false) ∷ xs) ys e = none_first xs ys e

-- ---- an open

module _ (h : Whole) (u : ℕ) (s : List ℕ) (uid : ℕ) where
  pub open-refused : (r : Refusal) → first_of (entry_tests h.world u s uid) ≡ Some r → whole_answer h (command.Open u s uid) ≡ (h, Reply.refused r)
  unfolding whole_answer whole_checks
  open-refused r e = ap (whole_answered h (command.Open u s uid)) (found_first (entry_tests h.world u s uid) (no_free_copy h ∷ []) r e)

  pub open-full : first_of (entry_tests h.world u s uid) ≡ None → free_copy h ≡ None → whole_answer h (command.Open u s uid) ≡ (h, Reply.refused Limit)
  unfolding whole_answer whole_checks
  open-full e full = ap (whole_answered h (command.Open u s uid)) (none_first (entry_tests h.world u s uid) (no_free_copy h ∷ []) e
      ∙ ap (λ (o : Option ℕ). first_of ((Limit, is_none o) ∷ [])) full)

  pub open-done : (n : ℕ) (t : Store) (p : Soup) (x : Entry) → settle h.world ≡ h.world → first_of (entry_tests h.world u s uid) ≡ None → free_copy h ≡ Some n
      → mounted_store h.world u ≡ Some t → soup_in h.world u s ≡ Some p → entry_in h.world u s uid ≡ Some x
      → whole_answer h (command.Open u s uid) ≡ (record h { copies = slice_set h.copies n (Some (opened t.sig p.sig x.uid x.time x.graph)) }, Reply.number n)
  unfolding whole_answer whole_checks whole_fields copies_after watches_after asks changed events
  open-done n t p x settled e free st sp se =
      ap (whole_answered h (command.Open u s uid)) (none_first (entry_tests h.world u s uid) (no_free_copy h ∷ []) e ∙ ap (λ (o : Option ℕ). first_of ((Limit, is_none o) ∷ [])) free)
      ∙ ap {A = World} {B = Whole × Reply} (λ w. (record { world = w; watches = h.watches; copies = new (free_copy h) (mounted_store h.world u) (soup_in h.world u s) (entry_in h.world u s uid) }, or_nil Reply.number (free_copy h))) settled
      ∙ ap {A = Option ℕ} {B = Whole × Reply} (λ o. (record h { copies = new o (mounted_store h.world u) (soup_in h.world u s) (entry_in h.world u s uid) }, or_nil Reply.number o)) free
      ∙ ap {A = Option Store} {B = Whole × Reply} (λ o. (record h { copies = new (Some n) o (soup_in h.world u s) (entry_in h.world u s uid) }, Reply.number n)) st
      ∙ ap {A = Option Soup} {B = Whole × Reply} (λ o. (record h { copies = new (Some n) (Some t) o (entry_in h.world u s uid) }, Reply.number n)) sp
      ∙ ap {A = Option Entry} {B = Whole × Reply} (λ o. (record h { copies = new (Some n) (Some t) (Some p) o }, Reply.number n)) se
    where
      new : Option ℕ → Option Store → Option Soup → Option Entry → List (Option Copy)
      new n t p e = put_copy n (opened_of t p e) h.copies

  pub open-thrown : (x : ℕ) → WholeStep h (command.Open u s uid) (whole_thrown h (command.Get u s uid) x) (Reply.thrown x)
  unfolding asks
  open-thrown x = wholes.thrown (command.Get u s uid) (inl refl) refl refl

-- ---- a save and a revert

-- a refusal of the first two tests of a save is no other than these
first-two : (a b : Bool) (r : Refusal) → first_of ((NoCopy, a) ∷ (NoEntry, b) ∷ []) ≡ Some r → (r ≡ NoCopy) ⊎ (r ≡ NoEntry)
first-two true b r e = inl (sym (some-same NoCopy r e))
first-two false true r e = inr (sym (some-same NoEntry r e))
first-two false false r e = absurd (none-some r e)

module _ (h : Whole) (n : ℕ) where
  -- there is no such copy, or its entry is in no mounted store
  pub save-nowhere : (r : Refusal) → first_of (no_copy h n ∷ entry_gone h n ∷ []) ≡ Some r → whole_answer h (command.Save n) ≡ (h, Reply.refused r)
  unfolding whole_answer whole_checks
  save-nowhere r e = ap (whole_answered h (command.Save n)) (found_first (no_copy h n ∷ entry_gone h n ∷ []) (entry_changed h n ∷ no_room h n ∷ []) r e)
      ∙ go (first-two (is_none (copy h n)) (entry_gone h n).1 r e)
    where
      go : (r ≡ NoCopy) ⊎ (r ≡ NoEntry) → whole_answered h (command.Save n) (Some r) ≡ (h, Reply.refused r)
      go (inl is) = subst (λ (x : Refusal). whole_answered h (command.Save n) (Some x) ≡ (h, Reply.refused x)) (sym is) refl
      go (inr is) = subst (λ (x : Refusal). whole_answered h (command.Save n) (Some x) ≡ (h, Reply.refused x)) (sym is) refl

  pub revert-nowhere : (r : Refusal) → first_of (no_copy h n ∷ entry_gone h n ∷ []) ≡ Some r → whole_answer h (command.Revert n) ≡ (h, Reply.refused r)
  unfolding whole_answer whole_checks
  revert-nowhere r e = ap (whole_answered h (command.Revert n)) e
