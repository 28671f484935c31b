-- The table of changes, row by row: stores stay well formed, and fit.
use Rattle.newt_spec_query.specs.Spec.{is_nil}
use Rattle.newt_spec_nsof.specs.Flat.{flat}
use Rattle.newt_spec_graph.specs.Limits.{within_limits}
use Rattle.newt_spec_graph.specs.Graph.{is_frame, object}
use Rattle.newt_graph.specs.Graph.{RawGraph}
use Rattle.std.proofs.Common.{arith, ◌≡◌, refl, ap, sym, ◌∙◌, subst, ℕ, ◌+◌, List, [], ◌∷◌, true, false, Bool, not, ◌||◌, ◌&&◌, cond, inl, Option, Some, None, map, length, nat_le, nat_lt, ◌==◌}
use Rattle.std.specs.Option.{is_none, is_some}
use Rattle.std.specs.Bool.{⊤}
use Rattle.std.specs.List.{list_all, list_any}
use Rattle.std.proofs.lemmas.Bool.{eqb-false, ltb-false, leb-false, and_parts}
use Rattle.newt_base.specs.Names.{same_name, is_identifier, valid_path}
use Rattle.newt_spec_store.specs.Keys.{Path, paths_of, same_paths}
use Rattle.newt_spec_store.specs.Store.{Store, Soup, soup_named, change_soup, make_soup, drop_soup, remove_entry, new_store, with_index, without_index, with_graph, with_tags, with_info}
use Rattle.newt_spec_graph.specs.Lists.{all_apart}
use Rattle.newt_spec_store.specs.Valid.{valid_spec, valid_tags, is_no_large, valid_info}
use Rattle.newt_spec_world.specs.declared.command.Command.{Command}
use Rattle.newt_spec_world.specs.declared.command.Command.TheVariants as command
use Rattle.newt_spec_world.specs.declared.command.PartWord.{PartWord}
use Rattle.newt_spec_world.specs.World.{World, one, default_unit, mounted_store, soup_in, entry_in, change_soup_in}
use Rattle.newt_spec_graph.specs.Larges.{large_at, large_bytes}
use Rattle.newt_spec_world.specs.Changed.{changed, mark, spec_of_words, graph_after_set, copy_to, patched, info_from}
use Rattle.newt_spec_world.specs.Refused.{checks, on_some}
use Rattle.newt_laws_world.specs.Worlds.{has_form, parts_fit}
use Rattle.newt_laws_world.proofs.Units.{change-device, change-store, mounted-has, soup-has}
use Rattle.newt_laws_world.proofs.Soups.{with-soup, with-index, without-index, with-tags, with-info, without-entry, with-new-soup, without-soup, new-store}
use Rattle.newt_laws_world.proofs.Kept.{AllFalse, on-some, not-none, Wf, Every, same-units, on_units, changed-units, wf-soup, entry-valid, wf-entry, wf-add, new-entry, set-entry, patched-good, or-right}

-- ---- devices

pub marked : (P : ℕ → Store → Type 0) (w : World) (u : ℕ) (b : Bool) → Every P w → Every P (mark w u b)
marked P w u b all = change-device (λ _. ⊤) P w u (λ d. record d { mounted = b }) all (λ d h. all u tt d h)

pub mount-row : (P : ℕ → Store → Type 0) (w : World) (u : ℕ) → Every P w → Every P (changed w (command.Mount u))
unfolding changed
mount-row P w u all = marked P w u true all

-- ---- well formed

parts-paths : (parts : List PartWord) → list_all (λ (p : PartWord). valid_path p.path) parts ≡ true → list_all (λ p. valid_path p.path) (spec_of_words parts) ≡ true
parts-paths [] h = refl
parts-paths (p ∷ parts) h = grind (arith, parts-paths parts)

parts-count : (parts : List PartWord) → length (spec_of_words parts) ≡ length parts
parts-count [] = refl
parts-count (p ∷ parts) = grind (arith, parts-count parts)

parts-same : (parts : List PartWord) → paths_of (spec_of_words parts) ≡ map (λ (p : PartWord). p.path) parts
parts-same [] = refl
parts-same (p ∷ parts) = ap (λ ps. p.path ∷ ps) (parts-same parts)

pub spec_valid : (parts : List PartWord) → parts_fit parts ≡ true → valid_spec (spec_of_words parts) ≡ true
spec_valid parts h = grind (arith, h, parts-count parts, parts-paths parts)

tags-good : (path : Path) (symbols : List (List ℕ)) → (valid_path path && list_all is_identifier symbols && all_apart same_name symbols) ≡ true → nat_lt 64 (length symbols) ≡ false
    → valid_tags (Some (record { path = path; symbols = symbols })) ≡ true
tags-good path symbols h k = grind (arith, h, k)

-- the info frame that a literal gives is valid
info-good : (g : RawGraph) → within_limits g ≡ true → not (is_nil g.root || (is_frame (object g.nodes g.root) && list_all is_no_large g.nodes)) ≡ false → nat_lt 4_000 (length (flat g)) ≡ false
    → valid_info (info_from g) ≡ true
info-good g form frame size = go (is_nil g.root) frame
  where
    go : (b : Bool) → not (b || (is_frame (object g.nodes g.root) && list_all is_no_large g.nodes)) ≡ false → valid_info (cond b None (Some g)) ≡ true
    go true h = refl
    go false h = grind (arith, form, h, size)

pub and-left : (a b : Bool) → (a && b) ≡ true → a ≡ true
and-left a b h = (and_parts a b h).0

pub and-right : (a b : Bool) → (a && b) ≡ true → b ≡ true
and-right a b h = (and_parts a b h).1

copied : (w : World) (u : ℕ) (s : List ℕ) (uid v : ℕ) (t : List ℕ) → Every Wf w → is_none (entry_in w u s uid) ≡ false → is_none (mounted_store w v) ≡ false
    → on_some (soup_in w v t) (λ p. p.next_uid == 536_870_911) ≡ false → Every Wf (copy_to w v t (entry_in w u s uid))
copied w u s uid v t all some m ids = let e = not-none (entry_in w u s uid) some in
    subst (λ o. Every Wf (copy_to w v t o)) (sym e.1) (wf-add w v t w.minute e.0.graph all m ids (λ n. entry-valid w u s uid e.0 all e.1))

removed : (w : World) (u : ℕ) (s : List ℕ) (uid : ℕ) → Every Wf w → Every Wf (change_soup_in w u s (remove_entry uid))
removed w u s uid all = change-store (λ _. ⊤) Wf w u (change_soup s (remove_entry uid)) all (inl tt)
    (λ blocks st has ok. with-soup s (remove_entry uid) st ok (λ p. refl) (λ p. refl) (λ p found good. without-entry uid p good))

pub wf-row : (w : World) (c : Command) → Every Wf w → has_form c ≡ true → AllFalse (checks w c) → Every Wf (changed w c)
unfolding changed checks has_form on_units
wf-row w (command.Format u name sig) all form h = change-device (λ _. ⊤) Wf w u (λ d. record d { media = one (new_store name sig); mounted = false }) all
    (λ d e. new-store name sig (and-left _ _ form) (and-right _ _ form))
wf-row w (command.Mount u) all form h = mount-row Wf w u all
wf-row w (command.Unmount u) all form h = marked Wf w u false all
wf-row w (command.Soup u name) all form h = change-store (λ _. ⊤) Wf w u (make_soup name) all (inl tt) (λ blocks s has ok.
    let m = mounted-has w u blocks s has h.1.0 in
    with-new-soup name s ok form (no-soup s m) (leb-false 250 (length s.soups) (on-some (mounted_store w u) (λ t. nat_le 250 (length t.soups)) s m h.1.1.1.0))
    (eqb-false s.next_soup 65535 (on-some (mounted_store w u) (λ t. t.next_soup == 65_535) s m h.1.1.1.1.0)))
  where
    no-soup : (s : Store) → mounted_store w u ≡ Some s → soup_named name s ≡ None
    no-soup s m = go (soup_named name s) (ap is_some (sym (soup-has w u s name m)) ∙ h.1.1.0)
      where
        go : (o : Option Soup) → is_some o ≡ false → o ≡ None
        go None e = refl
        go (Some p) e = cc
wf-row w (command.Drop u s) all form h = change-store (λ _. ⊤) Wf w u (drop_soup s) all (inl tt) (λ blocks t has ok. without-soup s t ok)
wf-row w (command.Index u s parts) all form h = wf-soup w u s (with_index (spec_of_words parts)) all h.1.0 (λ p. refl) (λ p. refl) (λ p found ok.
    with-index (spec_of_words parts) p ok (spec_valid parts form) (leb-false 16 (length p.specs) (on-some (soup_in w u s) (λ p. nat_le 16 (length p.specs)) p found h.1.1.1.1.1.0))
    (ap (λ ps. list_any (λ t. same_paths (paths_of t) ps) p.specs) (parts-same parts) ∙ on-some (soup_in w u s) (λ p. list_any (λ t. same_paths (paths_of t) (map (λ (p : PartWord). p.path) parts)) p.specs) p found h.1.1.1.0))
wf-row w (command.Unindex u s paths) all form h = wf-soup w u s (without_index paths) all h.1.0 (λ p. refl) (λ p. refl) (λ p found ok. without-index paths p ok)
wf-row w (command.SetTags u s path symbols) all form h = wf-soup w u s (with_tags (Some (record { path = path; symbols = symbols }))) all h.1.0 (λ p. refl) (λ p. refl) (λ p found ok. with-tags (Some (record { path = path; symbols = symbols })) p (tags-good path symbols form h.1.1.1.0) ok)
wf-row w (command.SetInfo u s g) all form h = wf-soup w u s (with_info (info_from g)) all h.1.0 (λ p. refl) (λ p. refl) (λ p found ok. with-info (info_from g) p (info-good g form h.1.1.1.0 h.1.1.1.1.0) ok)
wf-row w (command.Add u s g) all form h = wf-add w u s w.minute g all h.1.0 h.1.1.1.1.1.0 (λ uid. new-entry g uid w.minute form h.1.1.1.0 h.1.1.1.1.0)
wf-row w (command.Addx u s g) all form h = wf-add w u s w.minute g all h.1.0 h.1.1.1.1.1.0 (λ uid. new-entry g uid w.minute form h.1.1.1.0 h.1.1.1.1.0)
wf-row w (command.Addu s g) all form h = wf-add w (default_unit w) s w.minute g all h.0 h.1.1.1.1.0 (λ uid. new-entry g uid w.minute form h.1.1.0 h.1.1.1.0)
wf-row w (command.Set u s uid path g) all form h = wf-entry w u s uid (λ e. with_graph w.minute (graph_after_set path g e.graph) e) all h.1.0 (λ e. refl) (λ e here ok.
    set-entry e w.minute path g ok (on-some (entry_in w u s uid) _ e here h.1.1.1.1.1.0) (on-some (entry_in w u s uid) _ e here h.1.1.1.1.1.1.0))
wf-row w (command.Change u s uid g) all form h = wf-entry w u s uid (with_graph w.minute g) all h.1.0 (λ e. refl) (λ e here ok. new-entry g e.uid w.minute form h.1.1.1.1.0 h.1.1.1.1.1.0)
wf-row w (command.Remove u s uid) all form h = removed w u s uid all
wf-row w (command.Copy u s uid v t) all form h = copied w u s uid v t all h.1.1.1.0 (or-right _ _ h.1.0) h.1.1.1.1.0
wf-row w (command.Move u s uid v t) all form h = removed (copy_to w v t (entry_in w u s uid)) u s uid (copied w u s uid v t all h.1.1.1.0 (or-right _ _ h.1.0) h.1.1.1.1.0)
wf-row w (command.Vwrite u s uid path at bytes) all form h = wf-entry w u s uid (λ e. record e { graph = patched path at bytes e.graph }) all h.1.0 (λ e. refl) (λ e here ok.
    patched-good (large_at e.graph path) at bytes e (ltb-false (length (large_bytes e.graph path)) (at + length bytes) (on-some (entry_in w u s uid) (λ e. nat_lt (length (large_bytes e.graph path)) (at + length bytes)) e here h.1.1.1.1.1.0)) ok)
wf-row w (command.Nsof g) all form h = same-units Wf (changed w (command.Nsof g)) w (changed-units w (command.Nsof g) refl) all
wf-row w c all form h = same-units Wf (changed w c) w (changed-units w c refl) all
