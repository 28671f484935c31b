-- Entries whose graph is replaced.
use Rattle.std.proofs.Common.{◌≡◌, refl, ap, sym, ◌∙◌, ℕ, List, [], ◌∷◌, Bool, true, false, not, ◌&&◌, nat_lt, nat_le, Option, Some, option_and_then, unwrap_or, cond, find, drop, ◌==◌}
use Rattle.std.specs.Option.{is_none}
use Rattle.newt_base.specs.Names.{equal_text}
use Rattle.newt_base.specs.Refusals.{Checks, first_of}
use Rattle.newt_base.specs.declared.Refusal.TheVariants.{Notframe, Path as NoPath, Limit, Size, Full}
use Rattle.newt_graph.specs.Graph.{RawGraph}
use Rattle.newt_graph.specs.Meeting.{normal_form}
use Rattle.newt_spec_image.specs.Pages.{cap}
use Rattle.newt_spec_graph.specs.Graph.{is_frame, object}
use Rattle.newt_spec_graph.specs.Limits.{within_limits, is_within}
use Rattle.newt_spec_graph.specs.Slots.{put}
use Rattle.newt_spec_graph.proofs.Lists.{some-same}
use Rattle.newt_spec_store.specs.Cost.{cost, skeleton_length}
use Rattle.newt_spec_store.specs.Keys.{Path}
use Rattle.newt_spec_store.specs.Valid.{valid_entry}
use Rattle.newt_spec_store.specs.Store.{Store, Soup, Entry, soup_named, entry_of, change_first, change_soup, change_entry, with_graph}
use Rattle.newt_spec_world.specs.declared.command.Command.{Command}
use Rattle.newt_spec_world.specs.declared.command.Command.TheVariants as command
use Rattle.newt_spec_world.specs.World.{World, device, store_of, entry_in, change_store}
use Rattle.newt_spec_world.specs.Changed.{changed, graph_after_set}
use Rattle.newt_spec_world.specs.Refused.{checks, on_some, no_unit, not_mounted, no_soup, no_entry, full}
use Rattle.newt_laws_world.proofs.Frames.{set-frame, normal-frame}
use Rattle.newt_laws_world.proofs.Rows.{and-left}
use Rattle.newt_laws_answers.proofs.Tests.{replaced, replace_tests}
use Rattle.newt_laws_answers.specs.There.{OnUnit}
use Rattle.newt_laws_answers.proofs.Firsts.{first-false}
use Rattle.newt_laws_answers.proofs.Units.{on-changed, store-alike}
use Rattle.newt_laws_answers.proofs.Answers.{refused, all-pass, entry-named, full-is}
use Rattle.newt_laws_answers.proofs.Entries.{entry-passes}

-- ---- changes that agree on what is changed

first-alike : {X : Type 0} (test : X → Bool) (f g : X → X) (xs : List X) (x : X) → find test xs ≡ Some x → f x ≡ g x → change_first test f xs ≡ change_first test g xs
first-alike test f g [] x h k = refl
first-alike {X} test f g (y ∷ ys) x h k = go (test y) h (first-alike test f g ys x)
  where
    go : (b : Bool) → cond b (Some y) (find test ys) ≡ Some x → (find test ys ≡ Some x → f x ≡ g x → change_first test f ys ≡ change_first test g ys)
        → cond b (f y ∷ ys) (y ∷ change_first test f ys) ≡ cond b (g y ∷ ys) (y ∷ change_first test g ys)
    go true i more = ap {A = X} {B = List X} (λ z. z ∷ ys) (ap f (some-same y x i) ∙ k ∙ ap g (sym (some-same y x i)))
    go false i more = ap {A = List X} {B = List X} (λ zs. y ∷ zs) (more i k)

-- of a store, that agree on one entry
pub entry-alike : (name : List ℕ) (uid : ℕ) (f g : Entry → Entry) (s : Store) (p : Soup) (e : Entry) → soup_named name s ≡ Some p → entry_of uid p ≡ Some e → f e ≡ g e
    → change_soup name (change_entry uid f) s ≡ change_soup name (change_entry uid g) s
entry-alike name uid f g s p e named here same =
    ap {A = List Soup} {B = Store} (λ ps. record s { soups = ps }) (first-alike (λ p. equal_text p.name name) (change_entry uid f) (change_entry uid g) s.soups p named
    (ap {A = List Entry} {B = Soup} (λ es. record p { entries = es }) (first-alike (λ e. e.uid == uid) f g p.entries e here same)))

-- ---- refused before

-- ---- the entry is there

module _ (w : World) (u blocks : ℕ) (s : Store) (name : List ℕ) (p : Soup) (uid : ℕ) (h : OnUnit w u blocks s) (f : soup_named name s ≡ Some p) (e : Entry) (here : entry_of uid p ≡ Some e) where
  pub there-passes : (rest : Checks) → first_of (no_unit w u ∷ not_mounted w u ∷ no_soup w u name ∷ no_entry w u name uid ∷ rest) ≡ first_of rest
  there-passes rest = all-pass w u blocks s name p (no_entry w u name uid ∷ rest) h f ∙ entry-passes w u blocks s name p uid h f e here rest

  full-replaced : (c : Command) (new : RawGraph) → changed w c ≡ change_store w u (replaced w.minute name uid new) → (full w u c).1 ≡ nat_lt (cap blocks) (cost (replaced w.minute name uid new s))
  full-replaced c new is = ap (λ v. on_some (device v u) (λ d. on_some (store_of d.media) (λ s. nat_lt (cap d.blocks) (cost s)))) is
      ∙ full-is (change_store w u (replaced w.minute name uid new)) u blocks (replaced w.minute name uid new s) (on-changed w u blocks s (replaced w.minute name uid new) h)

  -- ---- change

  module _ (g : RawGraph) where
    pub change-checks : first_of (checks w (command.Change u name uid g)) ≡ first_of (replace_tests blocks w.minute name uid g s)
    unfolding checks changed
    change-checks =
        there-passes (drop 4 (checks w (command.Change u name uid g)))
        ∙ ap {A = Bool} (λ b. first_of ((Notframe, not (is_frame (object g.nodes g.root))) ∷ (Size, nat_lt 64_000 (skeleton_length g)) ∷ (Full, b) ∷ []))
        (full-replaced (command.Change u name uid g) g refl)

  -- ---- set

  module _ (path : Path) (g : RawGraph) where
    there : entry_in w u name uid ≡ Some e
    there = entry-named w u blocks s name p uid h f ∙ here

    -- the tests after the entry's, by the entry
    abbrev tests : Option Entry → Checks
    tests o =
        (NoPath, on_some o (λ e. is_none (put e.graph path g)))
        ∷ (Limit, on_some o (λ e. on_some (put e.graph path g) (λ x. not (is_within (normal_form x)))))
        ∷ (Size, on_some o (λ e. nat_lt 64_000 (skeleton_length (graph_after_set path g e.graph))))
        ∷ full w u (command.Set u name uid path g) ∷ []

    set-tests : first_of (checks w (command.Set u name uid path g)) ≡ first_of (tests (Some e))
    unfolding checks
    set-tests = there-passes (drop 4 (checks w (command.Set u name uid path g))) ∙ ap (λ o. first_of (tests o)) there

    module _ (raw : RawGraph) (is : put e.graph path g ≡ Some raw) where
      path-passes : first_of (tests (Some e)) ≡ first_of (drop 1 (tests (Some e)))
      path-passes = first-false NoPath _ (drop 1 (tests (Some e))) (ap is_none is)

      module _ (new : RawGraph) (form : normal_form raw ≡ Some new) (within : within_limits new ≡ true) (ok : valid_entry e ≡ true) where
        after : graph_after_set path g e.graph ≡ new
        after = ap (λ o. unwrap_or (option_and_then normal_form o) e.graph) is ∙ ap (λ o. unwrap_or o e.graph) form

        framed : is_frame (object new.nodes new.root) ≡ true
        framed = normal-frame raw new (set-frame path g e.graph raw (and-left (is_frame (object e.graph.nodes e.graph.root)) (within_limits e.graph)
            (and-left (is_frame (object e.graph.nodes e.graph.root) && within_limits e.graph) (nat_le (skeleton_length e.graph) 64_000) ok)) is) form

        pub set-changed : changed w (command.Set u name uid path g) ≡ change_store w u (replaced w.minute name uid new)
        unfolding changed
        set-changed = store-alike w u blocks s (change_soup name (change_entry uid (λ e. with_graph w.minute (graph_after_set path g e.graph) e))) (replaced w.minute name uid new) h
            (entry-alike name uid (λ e. with_graph w.minute (graph_after_set path g e.graph) e) (with_graph w.minute new) s p e f here (ap (λ x. with_graph w.minute x e) after))

        pub set-checks : first_of (checks w (command.Set u name uid path g)) ≡ first_of (replace_tests blocks w.minute name uid new s)
        set-checks =
            set-tests ∙ path-passes
            ∙ first-false Limit _ (drop 2 (tests (Some e))) (ap (λ o. on_some o (λ x. not (is_within (normal_form x)))) is ∙ ap (λ o. not (is_within o)) form ∙ ap not within)
            ∙ ap (λ x. first_of ((Size, nat_lt 64_000 (skeleton_length x)) ∷ full w u (command.Set u name uid path g) ∷ [])) after
            ∙ ap {A = Bool} (λ b. first_of ((Size, nat_lt 64_000 (skeleton_length new)) ∷ (Full, b) ∷ [])) (full-replaced (command.Set u name uid path g) new set-changed)
            ∙ sym (first-false Notframe _ (drop 1 (replace_tests blocks w.minute name uid new s)) (ap not framed))
