-- Each row of the table keeps stores valid.
use Rattle.std.proofs.Common.{arith, ◌≡◌, refl, ap, sym, ◌∙◌, subst, ℕ, ◌+◌, ◌*◌, ◌≤◌, List, [], ◌∷◌, true, false, Bool, not, ◌||◌, inl, Option, Some, None, option_and_then, unwrap_or, map, length, nat_lt, ◌==◌}
use Rattle.std.specs.Prelude.{slice_get}
use Rattle.std.specs.Option.{is_none}
use Rattle.std.specs.Bool.{⊤}
use Rattle.std.proofs.lemmas.Bool.{eqb-false, ltb-false, le-leb, not-false}
use Rattle.newt_base.specs.Names.{same_name}
use Rattle.newt_base.specs.Refusals.{Checks, first_of}
use Rattle.newt_base.specs.declared.Refusal.{Refusal}
use Rattle.newt_graph.specs.Graph.{RawGraph}
use Rattle.newt_spec_graph.specs.Graph.{is_frame, object}
use Rattle.newt_spec_graph.specs.Limits.{within_limits, is_within}
use Rattle.newt_graph.specs.Meeting.{normal_form}
use Rattle.newt_spec_graph.specs.Slots.{put}
use Rattle.newt_spec_store.specs.Keys.{Path}
use Rattle.newt_spec_store.specs.Store.{Store, Soup, Entry, soup_named, entry_of, change_soup, change_entry, add_entry, with_graph}
use Rattle.newt_spec_image.specs.Objects.{pages_for}
use Rattle.newt_spec_store.specs.Cost.{skeleton_length, entry_pages}
use Rattle.newt_spec_store.specs.Valid.{well_formed, fits, valid_soup, valid_entry}
use Rattle.newt_spec_query.specs.Hits.{Hit}
use Rattle.newt_spec_query.specs.Cursor.{Cursor}
use Rattle.newt_spec_world.specs.declared.command.Command.{Command}
use Rattle.newt_spec_world.specs.declared.command.Command.TheVariants as command
use Rattle.newt_spec_world.specs.World.{World, Media, blank, one, two, lost, mounted_store, soup_in, entry_in, flat, free_cursor, change_soup_in}
use Rattle.newt_spec_graph.specs.Larges.{bytes_of_large}
use Rattle.newt_spec_world.specs.Changed.{changed, graph_after_set, patched_at, Step, step_from, open_at, put_on, cloned}
use Rattle.newt_spec_world.specs.Refused.{on_some}
use Rattle.newt_laws_world.specs.Worlds.{OnMedia, OnUnits}
use Rattle.newt_spec_graph.proofs.Lists.{none-some}
use Rattle.newt_laws_images.proofs.Records.{all-true}
use Rattle.newt_laws_world.proofs.Units.{change-store, Has, mounted-has, has-mounted, soup-has, entry-has}
use Rattle.newt_laws_world.proofs.Soups.{with-soup, with-entry, with-change, found-good, is-store, is-soup}
use Rattle.newt_laws_world.proofs.Patch.{at-skeleton, at-lengths, at-limits, at-frame}
use Rattle.newt_laws_world.proofs.Frames.{set-frame, normal-frame}

-- ---- checks

abbrev pub AllFalse : Checks → Type 0
AllFalse [] = ⊤
AllFalse (k ∷ ks) = (k.1 ≡ false) × AllFalse ks

pub all-false : (ks : Checks) → first_of ks ≡ None → AllFalse ks
all-false [] h = tt
all-false ((r, b) ∷ ks) h = go b h (all-false ks)
  where
    go : (b : Bool) → ◌≡◌ {A = Option Refusal} (elim b [ true ↦ Some r | false ↦ first_of ks ]) None → (first_of ks ≡ None → AllFalse ks) → (b ≡ false) × AllFalse ks
    go true e more = cc
    go false e more = (refl, more e)

pub on-some : {X : Type 0} (o : Option X) (test : X → Bool) (x : X) → o ≡ Some x → on_some o test ≡ false → test x ≡ false
on-some o test x e h = sym (ap (λ v. on_some v test) e) ∙ h

pub not-none : {X : Type 0} (o : Option X) → is_none o ≡ false → (x : X) × (o ≡ Some x)
not-none None h = cc
not-none (Some x) h = (x, refl)

pub or-right : (a b : Bool) → (a || b) ≡ false → b ≡ false
or-right false b h = h
or-right true b h = cc

-- ---- the two halves

abbrev pub Wf : ℕ → Store → Type 0
Wf blocks s = well_formed s ≡ true

abbrev pub Ft : ℕ → Store → Type 0
Ft blocks s = fits blocks s ≡ true

abbrev pub Every : (ℕ → Store → Type 0) → World → Type 0
Every P w = OnUnits (λ _. ⊤) P w

pub media-more : (P Q : ℕ → Store → Type 0) (blocks : ℕ) (m : Media) → ((s : Store) → P blocks s → Q blocks s) → OnMedia P blocks m → OnMedia Q blocks m
media-more P Q blocks blank f h = tt
media-more P Q blocks (one s) f h = f s h
media-more P Q blocks (two a b) f h = (f a h.0, f b h.1)
media-more P Q blocks lost f h = tt

pub media-both : (P Q R : ℕ → Store → Type 0) (blocks : ℕ) (m : Media) → ((s : Store) → P blocks s → Q blocks s → R blocks s) → OnMedia P blocks m → OnMedia Q blocks m → OnMedia R blocks m
media-both P Q R blocks blank f h k = tt
media-both P Q R blocks (one s) f h k = f s h k
media-both P Q R blocks (two a b) f h k = (f a h.0 k.0, f b h.1 k.1)
media-both P Q R blocks lost f h k = tt

-- ---- rows that leave the units alone

pub same-units : (P : ℕ → Store → Type 0) (v w : World) → v.units ≡ w.units → Every P w → Every P v
same-units P v w e all u k d h = all u tt d (sym (ap (λ us. flat (slice_get us u)) e) ∙ h)

step-units : (w : World) (c : ℕ) (step : Step) (o : Option Cursor) → (step_from w c step o).units ≡ w.units
step-units w c step None = refl
step-units w c step (Some k) = refl

open-units : (w : World) (k : Cursor) (o : Option ℕ) → (open_at w k o).units ≡ w.units
open-units w k None = refl
open-units w k (Some c) = refl

put-units : (w : World) (c : ℕ) (o : Option Hit) → (put_on w c o).units ≡ w.units
put-units w c None = refl
put-units w c (Some h) = refl

clone-units : (w : World) (o : Option Cursor) → (cloned w o).units ≡ w.units
clone-units w None = refl
clone-units w (Some k) = open-units w k (free_cursor w)

-- the commands that change units
unfoldable pub on_units : Command → Bool
on_units (command.Format _ _ _) = true
on_units (command.Mount _) = true
on_units (command.Unmount _) = true
on_units (command.Soup _ _) = true
on_units (command.Drop _ _) = true
on_units (command.Index _ _ _) = true
on_units (command.Unindex _ _ _) = true
on_units (command.SetTags _ _ _ _) = true
on_units (command.SetInfo _ _ _) = true
on_units (command.Add _ _ _) = true
on_units (command.Addx _ _ _) = true
on_units (command.Addu _ _) = true
on_units (command.Set _ _ _ _ _) = true
on_units (command.Change _ _ _ _) = true
on_units (command.Remove _ _ _) = true
on_units (command.Copy _ _ _ _ _) = true
on_units (command.Move _ _ _ _ _) = true
on_units (command.Vwrite _ _ _ _ _ _) = true
on_units _ = false

pub changed-units : (w : World) (c : Command) → on_units c ≡ false → (changed w c).units ≡ w.units
unfolding changed on_units
changed-units w (command.Format _ _ _) h = cc
changed-units w (command.Mount _) h = cc
changed-units w (command.Unmount _) h = cc
changed-units w (command.Soup _ _) h = cc
changed-units w (command.Drop _ _) h = cc
changed-units w (command.Index _ _ _) h = cc
changed-units w (command.Unindex _ _ _) h = cc
changed-units w (command.SetTags _ _ _ _) h = cc
changed-units w (command.SetInfo _ _ _) h = cc
changed-units w (command.Add _ _ _) h = cc
changed-units w (command.Addx _ _ _) h = cc
changed-units w (command.Addu _ _) h = cc
changed-units w (command.Set _ _ _ _ _) h = cc
changed-units w (command.Change _ _ _ _) h = cc
changed-units w (command.Remove _ _ _) h = cc
changed-units w (command.Copy _ _ _ _ _) h = cc
changed-units w (command.Move _ _ _ _ _) h = cc
changed-units w (command.Vwrite _ _ _ _ _ _) h = cc
changed-units w (command.Query u s g) h = search open-units
changed-units w (command.QueryAll s g) h = search open-units
changed-units w (command.Next c) h = search step-units
changed-units w (command.Prev c) h = search step-units
changed-units w (command.Reset c) h = search step-units
changed-units w (command.End c) h = search step-units
changed-units w (command.Moveby c k) h = search step-units
changed-units w (command.Goto c u uid) h = search put-units
changed-units w (command.Gotokey c g) h = search step-units
changed-units w (command.Clone c) h = search clone-units
changed-units w _ h = refl

-- ---- rows on one soup

-- the check on a soup that is there
pub there : (w : World) (u blocks : ℕ) (s : Store) (name : List ℕ) (p : Soup) → Has w u blocks s → is_none (mounted_store w u) ≡ false → soup_named name s ≡ Some p → soup_in w u name ≡ Some p
there w u blocks s name p has m found = soup-has w u s name (mounted-has w u blocks s has m) ∙ found

pub wf-soup : (w : World) (u : ℕ) (name : List ℕ) (f : Soup → Soup) → Every Wf w → is_none (mounted_store w u) ≡ false → ((p : Soup) → (f p).name ≡ p.name) → ((p : Soup) → (f p).sig ≡ p.sig)
    → ((p : Soup) → soup_in w u name ≡ Some p → valid_soup p ≡ true → valid_soup (f p) ≡ true) → Every Wf (change_soup_in w u name f)
wf-soup w u name f all m same_name same_sig keeps = change-store (λ _. ⊤) Wf w u (change_soup name f) all (inl tt)
    (λ blocks s has ok. with-soup name f s ok same_name same_sig (λ p found. keeps p (there w u blocks s name p has m found)))

-- an entry that is there is valid
pub entry-valid : (w : World) (u : ℕ) (name : List ℕ) (uid : ℕ) (e : Entry) → Every Wf w → entry_in w u name uid ≡ Some e → valid_entry e ≡ true
entry-valid w u name uid e all h = in-store (mounted_store w u) refl h
  where
    in-soup : (s : Store) → well_formed s ≡ true → (o : Option Soup) → soup_named name s ≡ o → option_and_then (entry_of uid) o ≡ Some e → valid_entry e ≡ true
    in-soup s ok None f k = absurd (none-some e k)
    in-soup s ok (Some p) f k = found-good valid_entry (λ v. v.uid == uid) p.entries e (is-soup p (found-good valid_soup (λ v. Rattle.newt_base.specs.Names.equal_text v.name name) s.soups p (is-store s ok).soups_fit f)).entries_fit k

    in-store : (o : Option Store) → mounted_store w u ≡ o → option_and_then (entry_of uid) (option_and_then (soup_named name) o) ≡ Some e → valid_entry e ≡ true
    in-store None m k = absurd (none-some e k)
    in-store (Some s) m k = let d = has-mounted w u s m in
        in-soup s (subst (OnMedia Wf d.1.on.blocks) d.1.has (all u tt d.1.on d.1.is)) (soup_named name s) refl k

pub wf-entry : (w : World) (u : ℕ) (name : List ℕ) (uid : ℕ) (f : Entry → Entry) → Every Wf w → is_none (mounted_store w u) ≡ false → ((e : Entry) → (f e).uid ≡ e.uid)
    → ((e : Entry) → entry_in w u name uid ≡ Some e → valid_entry e ≡ true → valid_entry (f e) ≡ true) → Every Wf (change_soup_in w u name (change_entry uid f))
wf-entry w u name uid f all m same keeps = wf-soup w u name (change_entry uid f) all m (λ p. refl) (λ p. refl)
    (λ p found ok. with-change uid f p ok same (λ e here good. keeps e (entry-has w u p name uid found ∙ here) good))

pub wf-add : (w : World) (u : ℕ) (name : List ℕ) (time : ℕ) (g : RawGraph) → Every Wf w → is_none (mounted_store w u) ≡ false → on_some (soup_in w u name) (λ p. p.next_uid == 536_870_911) ≡ false
    → ((uid : ℕ) → valid_entry (record { uid = uid; time = time; graph = g }) ≡ true) → Every Wf (change_soup_in w u name (add_entry time g))
wf-add w u name time g all m ids good = wf-soup w u name (add_entry time g) all m (λ p. refl) (λ p. refl)
    (λ p found ok. with-entry time g p ok (eqb-false p.next_uid 536870911 (on-some (soup_in w u name) _ p found ids)) (good p.next_uid))

pub new-entry : (g : RawGraph) (uid time : ℕ) → within_limits g ≡ true → not (is_frame (object g.nodes g.root)) ≡ false → nat_lt 64_000 (skeleton_length g) ≡ false → valid_entry (record { uid = uid; time = time; graph = g }) ≡ true
new-entry g uid time limits frame size = grind (arith, limits, frame, size)

entry-frame : (e : Entry) → valid_entry e ≡ true → is_frame (object e.graph.nodes e.graph.root) ≡ true
entry-frame e h = grind arith

-- where the graph with the value is there, what it is follows from its normal form
set-good : (e : Entry) (minute : ℕ) (o : Option RawGraph) → valid_entry e ≡ true → ((h : RawGraph) → o ≡ Some h → is_frame (object h.nodes h.root) ≡ true)
    → on_some o (λ h. not (is_within (normal_form h))) ≡ false
    → nat_lt 64_000 (skeleton_length (unwrap_or (option_and_then normal_form o) e.graph)) ≡ false
    → valid_entry (with_graph minute (unwrap_or (option_and_then normal_form o) e.graph) e) ≡ true
set-good e minute None h frame limits size = h
set-good e minute (Some x) h frame limits size = go (normal_form x) refl limits size
  where
    go : (o : Option RawGraph) → normal_form x ≡ o → not (is_within o) ≡ false → nat_lt 64_000 (skeleton_length (unwrap_or o e.graph)) ≡ false
        → valid_entry (with_graph minute (unwrap_or o e.graph) e) ≡ true
    go None is l k = cc
    go (Some y) is l k = all-true _ _ _ (normal-frame x y (frame x refl) is) (not-false _ l)
        (le-leb (skeleton_length y) 64_000 (ltb-false 64_000 (skeleton_length y) k))

pub set-entry : (e : Entry) (minute : ℕ) (path : Path) (g : RawGraph) → valid_entry e ≡ true → on_some (put e.graph path g) (λ h. not (is_within (normal_form h))) ≡ false
    → nat_lt 64_000 (skeleton_length (graph_after_set path g e.graph)) ≡ false → valid_entry (with_graph minute (graph_after_set path g e.graph) e) ≡ true
set-entry e minute path g h limits size = set-good e minute (put e.graph path g) h (λ x is. set-frame path g e.graph x (entry-frame e h) is) limits size

-- ---- a patched graph

pub patched-good : (o : Option ℕ) (at : ℕ) (new : List ℕ) (e : Entry) → at + length new ≤ length (bytes_of_large (option_and_then (slice_get e.graph.nodes) o))
    → valid_entry e ≡ true → valid_entry (record e { graph = patched_at o at new e.graph }) ≡ true
patched-good None at new e room h = h
patched-good (Some n) at new e room h = grind (
  arith,
  h,
  at-frame at new e.graph n room,
  at-limits at new e.graph n room,
  ap {A = RawGraph} {B = ℕ} (λ k. length (Rattle.newt_spec_nsof.specs.Flat.flat k)) (at-skeleton at new e.graph n room),
)

pub patched-pages : (o : Option ℕ) (at : ℕ) (new : List ℕ) (e : Entry) → at + length new ≤ length (bytes_of_large (option_and_then (slice_get e.graph.nodes) o))
    → entry_pages (record e { graph = patched_at o at new e.graph }) ≡ entry_pages e
patched-pages None at new e room = refl
patched-pages (Some n) at new e room = ap (λ k. pages_for (12 + length (Rattle.newt_spec_nsof.specs.Flat.flat k) + 12 * length (Rattle.newt_spec_store.specs.Cost.large_lengths (patched_at (Some n) at new e.graph)))
    + Rattle.std.specs.Prelude.sum (map pages_for (Rattle.newt_spec_store.specs.Cost.large_lengths (patched_at (Some n) at new e.graph)))) (at-skeleton at new e.graph n room)
    ∙ ap (λ ls. pages_for (12 + skeleton_length e.graph + 12 * length ls) + Rattle.std.specs.Prelude.sum (map pages_for ls)) (at-lengths at new e.graph n room)
