-- Rows of the tables without the cursors.
use Rattle.std.proofs.Common.{◌≡◌, refl, ap, sym, ◌∙◌, ℕ, List, [], ◌∷◌, true, false, IsTrue, Option, Some, None, option_map, map, nat_lt}
use Rattle.std.specs.Prelude.{is_none}
use Rattle.std.specs.List.{list_all}
use Rattle.newt_base.specs.Refusals.{Checks, first_of}
use Rattle.newt_base.specs.declared.Refusal.{Refusal}
use Rattle.newt_base.specs.declared.Refusal.TheVariants.{Full}
use Rattle.newt_spec_image.specs.Pages.{cap}
use Rattle.newt_spec_store.specs.Cost.{cost}
use Rattle.newt_spec_store.specs.Store.{Entry, remove_entry}
use Rattle.newt_spec_query.specs.Cursor.{Cursor}
use Rattle.newt_spec_world.specs.declared.command.Command.{Command}
use Rattle.newt_spec_world.specs.declared.command.Command.TheVariants as command
use Rattle.newt_spec_world.specs.Reply.{Reply}
use Rattle.newt_spec_world.specs.World.{World, settle, settle_cursor, entry_in, change_soup_in, device, store_of}
use Rattle.newt_spec_world.specs.Changed.{changed, copy_to}
use Rattle.newt_spec_world.specs.Refused.{checks, either, no_unit, not_mounted, no_soup, no_entry, no_more_ids, on_some}
use Rattle.newt_spec_world.specs.Answer.{answer, answered, fields}
use Rattle.newt_laws_world.specs.Cursors.{with_cursors, all_closed, uses_cursors}

copied : (ks : List (Option Cursor)) (w : World) (u : ℕ) (name : List ℕ) (o : Option Entry) → copy_to (with_cursors ks w) u name o ≡ with_cursors ks (copy_to w u name o)
copied ks w u name None = refl
copied ks w u name (Some e) = refl

-- the checks of a copy or a move of which the world after is this one
copy_checks : World → World → ℕ → List ℕ → ℕ → ℕ → List ℕ → Checks
copy_checks w x u s uid v t =
    either (no_unit w u) (no_unit w v) ∷ either (not_mounted w u) (not_mounted w v) ∷ either (no_soup w u s) (no_soup w v t) ∷ no_entry w u s uid ∷ no_more_ids w v t
    ∷ (Full, on_some (device x v) (λ d. on_some (store_of d.media) (λ s. nat_lt (cap d.blocks) (cost s)))) ∷ []

pub changed-apart : (ks : List (Option Cursor)) (w : World) (c : Command) → uses_cursors c ≡ false → changed (with_cursors ks w) c ≡ with_cursors ks (changed w c)
unfolding changed uses_cursors
changed-apart ks w (command.Query _ _ _) h = cc
changed-apart ks w (command.QueryAll _ _) h = cc
changed-apart ks w (command.Entry _) h = cc
changed-apart ks w (command.Next _) h = cc
changed-apart ks w (command.Prev _) h = cc
changed-apart ks w (command.Reset _) h = cc
changed-apart ks w (command.End _) h = cc
changed-apart ks w (command.Moveby _ _) h = cc
changed-apart ks w (command.Goto _ _ _) h = cc
changed-apart ks w (command.Gotokey _ _) h = cc
changed-apart ks w (command.Count _) h = cc
changed-apart ks w (command.Which _) h = cc
changed-apart ks w (command.Clone _) h = cc
changed-apart ks w (command.Close _) h = cc
changed-apart ks w (command.Copy u s uid v t) h = copied ks w v t (entry_in w u s uid)
changed-apart ks w (command.Move u s uid v t) h = ap (λ (x : World). change_soup_in x u s (remove_entry uid)) (copied ks w v t (entry_in w u s uid))
changed-apart ks w _ h = refl

pub kept-apart : (w : World) (c : Command) → uses_cursors c ≡ false → (changed w c).cursors ≡ w.cursors
kept-apart w c h = ap (λ (v : World). v.cursors) (changed-apart w.cursors w c h)

pub fields-apart : (ks ls : List (Option Cursor)) (w v : World) (c : Command) → uses_cursors c ≡ false → fields (with_cursors ks w) (with_cursors ls v) c ≡ fields w v c
unfolding fields uses_cursors
fields-apart ks ls w v (command.Query _ _ _) h = cc
fields-apart ks ls w v (command.QueryAll _ _) h = cc
fields-apart ks ls w v (command.Entry _) h = cc
fields-apart ks ls w v (command.Next _) h = cc
fields-apart ks ls w v (command.Prev _) h = cc
fields-apart ks ls w v (command.Reset _) h = cc
fields-apart ks ls w v (command.End _) h = cc
fields-apart ks ls w v (command.Moveby _ _) h = cc
fields-apart ks ls w v (command.Goto _ _ _) h = cc
fields-apart ks ls w v (command.Gotokey _ _) h = cc
fields-apart ks ls w v (command.Count _) h = cc
fields-apart ks ls w v (command.Which _) h = cc
fields-apart ks ls w v (command.Clone _) h = cc
fields-apart ks ls w v (command.Close _) h = cc
fields-apart ks ls w v _ h = refl

pub checks-apart : (ks : List (Option Cursor)) (w : World) (c : Command) → uses_cursors c ≡ false → checks (with_cursors ks w) c ≡ checks w c
unfolding checks changed uses_cursors copy_checks
checks-apart ks w (command.Query _ _ _) h = cc
checks-apart ks w (command.QueryAll _ _) h = cc
checks-apart ks w (command.Entry _) h = cc
checks-apart ks w (command.Next _) h = cc
checks-apart ks w (command.Prev _) h = cc
checks-apart ks w (command.Reset _) h = cc
checks-apart ks w (command.End _) h = cc
checks-apart ks w (command.Moveby _ _) h = cc
checks-apart ks w (command.Goto _ _ _) h = cc
checks-apart ks w (command.Gotokey _ _) h = cc
checks-apart ks w (command.Count _) h = cc
checks-apart ks w (command.Which _) h = cc
checks-apart ks w (command.Clone _) h = cc
checks-apart ks w (command.Close _) h = cc
checks-apart ks w (command.Copy u s uid v t) h = ap (λ (x : World). copy_checks w x u s uid v t) (copied ks w v t (entry_in w u s uid))
checks-apart ks w (command.Move u s uid v t) h = ap (λ (x : World). copy_checks w (change_soup_in x u s (remove_entry uid)) u s uid v t) (copied ks w v t (entry_in w u s uid))
checks-apart ks w _ h = refl

closed-map : (f : Cursor → Cursor) (ks : List (Option Cursor)) → list_all is_none ks ≡ true → map (option_map f) ks ≡ ks
closed-map f [] h = refl
closed-map f (None ∷ ks) h = ap (λ cs. None ∷ cs) (closed-map f ks h)
closed-map f (Some k ∷ ks) h = cc

pub closed-settled : (w : World) → IsTrue (all_closed w) → settle w ≡ w
closed-settled w h = ap {A = List (Option Cursor)} {B = World} (λ cs. record w { cursors = cs }) (closed-map (settle_cursor w) w.cursors h)

pub answered-apart : (ks : List (Option Cursor)) (w : World) (c : Command) → uses_cursors c ≡ false
    → answered (with_cursors ks w) c None ≡ (settle (with_cursors ks (changed w c)), (answered w c None).1)
answered-apart ks w c h = λ i. (settle (changed-apart ks w c h i), same i)
  where
    same : fields (with_cursors ks w) (settle (changed (with_cursors ks w) c)) c ≡ fields w (settle (changed w c)) c
    same = ap (λ v. fields (with_cursors ks w) (settle v) c) (changed-apart ks w c h)
        ∙ fields-apart ks (settle (with_cursors ks (changed w c))).cursors w (changed w c) c h
        ∙ sym (fields-apart w.cursors (settle (changed w c)).cursors w (changed w c) c h)

pub answered-closed : (w : World) (c : Command) → uses_cursors c ≡ false → IsTrue (all_closed w) → answered w c None ≡ (changed w c, fields w (changed w c) c)
answered-closed w c h k = ap (λ (v : World). (v, fields w v c)) (closed-settled (changed w c) (ap (list_all is_none) (kept-apart w c h) ∙ k))

-- refused or not
pub answer-apart : (ks : List (Option Cursor)) (w : World) (c : Command) → uses_cursors c ≡ false → IsTrue (all_closed w) → settle (with_cursors ks w) ≡ with_cursors ks w
    → answer (with_cursors ks w) c ≡ (settle (with_cursors ks (answer w c).0), (answer w c).1)
unfolding answer
answer-apart ks w c h k settled = ap (λ t. answered (with_cursors ks w) c (first_of t)) (checks-apart ks w c h) ∙ go (first_of (checks w c))
  where
    go : (o : Option Refusal) → answered (with_cursors ks w) c o ≡ (settle (with_cursors ks (answered w c o).0), (answered w c o).1)
    go (Some r) = λ i. (sym settled i, Reply.refused r)
    go None =
        answered-apart ks w c h
        ∙ (λ i. (settle (with_cursors ks (sym (closed-settled (changed w c) (ap (list_all is_none) (kept-apart w c h) ∙ k)) i)), (answered w c None).1))
