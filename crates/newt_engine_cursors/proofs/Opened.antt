-- What the world answers to the commands that open a cursor.
use Rattle.std.proofs.Common.{◌≡◌, refl, ap, sym, subst, ◌∙◌, ℕ, ◌+◌, ◌<◌, List, [], ◌∷◌, ◌++◌, Bool, true, false, ◌||◌, drop, Option, Some, None, option_map, option_and_then}
use Rattle.std.specs.Prelude.{Result, Ok, Err, not, is_none, is_some}
use Rattle.std.specs.List.{list_any, cons_option}
use Rattle.newt_base.specs.Refusals.{Checks, first_of}
use Rattle.newt_base.specs.declared.Refusal.TheVariants.{Unit as NoUnit, Notmounted, Soup as NoSoup, Limit}
use Rattle.newt_graph.specs.Graph.{RawGraph}
use Rattle.newt_spec_graph.proofs.Lists.{none-some}
use Rattle.newt_spec_store.specs.Store.{Store, Soup, soup_named}
use Rattle.newt_spec_query.specs.Hits.{Query}
use Rattle.newt_spec_world.specs.declared.command.Command.{Command}
use Rattle.newt_spec_world.specs.declared.command.Command.TheVariants as command
use Rattle.newt_spec_world.specs.Reply.{Reply}
use Rattle.newt_spec_world.specs.First.{unit_numbers}
use Rattle.newt_spec_world.specs.World.{World, Device, device, free_cursor, mounted, mounted_store, settle, soup_in, store_if_mounted}
use Rattle.newt_spec_world.specs.Changed.{changed, opened, query_of, sig_of}
use Rattle.newt_spec_world.specs.Refused.{checks, no_free_cursor, no_soup_anywhere}
use Rattle.newt_spec_world.specs.Answer.{answer, fields, or_nil}
use Rattle.newt_laws_world.specs.Settled.{IsSettled, moves_keys}
use Rattle.newt_laws_answers.specs.Tests.{soup_checks}
use Rattle.newt_laws_answers.proofs.Firsts.{first-found}
use Rattle.newt_query.specs.Filter.{asks_texts}
use Rattle.newt_cursor.specs.declared.query.Query as code
use Rattle.newt_cursor.specs.Seen.{query_of as seen}
use Rattle.newt_store_change.specs.declared.fault.StoreFault.{StoreFault}
use Rattle.newt_store_change.specs.declared.fault.StoreFault.TheVariants.{Refused, Stop}
use Rattle.newt_store_change.specs.Faults.{RefusesBy}
use Rattle.newt_engine_units.proofs.Shown.{drop-step}
use Rattle.newt_engine_cursors.specs.Opening.{Binds, Opens, bind_tests}
use Rattle.newt_engine_units.specs.Answers.{Answers}
use Rattle.newt_engine_cursors.proofs.Answered.{refused-answer, done-goal}
use Rattle.newt_engine_cursors.proofs.Asked.{binds-same}

-- ---- tests one after another

pub first-on : (xs ys : Checks) → first_of xs ≡ None → first_of (xs ++ ys) ≡ first_of ys
first-on [] ys e = refl
first-on ((r, true) ∷ xs) ys e = absurd (none-some r (sym e))
first-on ((r, false) ∷ xs) ys e = first-on xs ys e

-- ---- a query that asks for no words or texts

pub unread-asked : (q r : Query) → q ≡ r → not (asks_texts r.spec) ≡ true → asks_texts q.spec ≡ false
unread-asked q r e un = ap (λ (q : Query). asks_texts q.spec) e ∙ not-true (asks_texts r.spec) un
  where
    not-true : (b : Bool) → not b ≡ true → b ≡ false
    not-true true h = cc
    not-true false h = refl

-- ---- a cursor that is opened

module _ (w : World) (c : Command) (tests : Checks) (are : checks w c ≡ tests ++ no_free_cursor w ∷ []) where
  pub refused-asked : (q : Query) (fault : StoreFault) → Binds tests q (Err fault) → Answers {T = ℕ} w w c (λ n. Reply.number n) (Err fault)
  refused-asked q (Refused r) h = refused-answer w c r (ap first_of are ∙ first-found tests (no_free_cursor w ∷ []) r h)
  refused-asked q (Stop stop) h = tt

  module _ (p q : Query) (does : changed w c ≡ opened w q) (says : (u : World) → fields w u c ≡ or_nil Reply.number (free_cursor w)) (passed : first_of tests ≡ None) (is : p ≡ q) where
    free : (o : Option ℕ) → free_cursor w ≡ o → first_of (checks w c) ≡ first_of ((Limit, is_none o) ∷ [])
    free o e = ap first_of are ∙ first-on tests (no_free_cursor w ∷ []) passed ∙ ap (λ (o : Option ℕ). first_of ((Limit, is_none o) ∷ [])) e

    pub opens-answer : IsSettled (changed w c) → (v : World) (r : Result ℕ StoreFault) → Opens w v p r → Answers w v c (λ n. Reply.number n) r
    opens-answer settled v (Ok n) h =
        done-goal w (opened w q) v c (Reply.number n) (free (Some n) h.0) does (h.1 ∙ ap (opened w) is ∙ sym (subst IsSettled does settled))
        (sym (says (settle (opened w q)) ∙ ap (or_nil Reply.number) h.0))
    opens-answer settled v (Err (Refused r)) h =
        refused-answer w c r (free None h.1 ∙ ap Some (sym h.0)) ∙ (λ i. (sym h.2 i, Reply.refused r))
    opens-answer settled v (Err (Stop stop)) h = tt

-- ---- the two commands

abbrev pub query_tests : World → ℕ → List ℕ → RawGraph → Checks
query_tests w u name g = soup_checks w u name ++ bind_tests w (Some (sig_of w u)) name g

abbrev pub all_tests : World → List ℕ → RawGraph → Checks
all_tests w name g = no_soup_anywhere w name ∷ bind_tests w None name g

module _ (w : World) (u : ℕ) (name : List ℕ) (g : RawGraph) where
  pub query-few : moves_keys (command.Query u name g) ≡ false
  unfolding moves_keys
  query-few = refl

  query-are : checks w (command.Query u name g) ≡ query_tests w u name g ++ no_free_cursor w ∷ []
  unfolding checks
  query-are = refl

  query-does : changed w (command.Query u name g) ≡ opened w (query_of w (Some (sig_of w u)) name g)
  unfolding changed
  query-does = refl

  query-says : (v : World) → fields w v (command.Query u name g) ≡ or_nil Reply.number (free_cursor w)
  unfolding fields
  query-says v = refl

  pub query-refused : (fault : StoreFault) → Binds (query_tests w u name g) (query_of w (Some (sig_of w u)) name g) (Err fault) → Answers {T = ℕ} w w (command.Query u name g) (λ n. Reply.number n) (Err fault)
  query-refused fault h = refused-asked w (command.Query u name g) (query_tests w u name g) query-are (query_of w (Some (sig_of w u)) name g) fault h

  pub query-opens : IsSettled (changed w (command.Query u name g)) → (v : World) (asked : code.Query) → Binds (query_tests w u name g) (query_of w (Some (sig_of w u)) name g) (Ok asked) → (r : Result ℕ StoreFault) → Opens w v (seen asked) r
      → Answers w v (command.Query u name g) (λ n. Reply.number n) r
  query-opens settled v asked h r o =
      opens-answer w (command.Query u name g) (query_tests w u name g) query-are (seen asked) (query_of w (Some (sig_of w u)) name g) query-does query-says h.0 h.1 settled v r o

module _ (w : World) (name : List ℕ) (g : RawGraph) where
  pub all-few : moves_keys (command.QueryAll name g) ≡ false
  unfolding moves_keys
  all-few = refl

  all-are : checks w (command.QueryAll name g) ≡ all_tests w name g ++ no_free_cursor w ∷ []
  unfolding checks
  all-are = refl

  all-does : changed w (command.QueryAll name g) ≡ opened w (query_of w None name g)
  unfolding changed
  all-does = refl

  all-says : (v : World) → fields w v (command.QueryAll name g) ≡ or_nil Reply.number (free_cursor w)
  unfolding fields
  all-says v = refl

  -- no soup of the name
  pub nowhere : (b : Bool) → b ≡ list_any (λ m. is_some (soup_in w m.0 name)) (mounted w) → b ≡ false → answer w (command.QueryAll name g) ≡ (w, Reply.refused NoSoup)
  nowhere b e is = refused-answer w (command.QueryAll name g) NoSoup (ap first_of all-are ∙ ap (λ b. first_of ((NoSoup, not b) ∷ (bind_tests w None name g ++ no_free_cursor w ∷ []))) (sym e ∙ is))

  module _ (b : Bool) (e : b ≡ list_any (λ m. is_some (soup_in w m.0 name)) (mounted w)) (is : b ≡ true) where
    there : first_of (bind_tests w None name g) ≡ first_of (all_tests w name g)
    there = ap (λ b. first_of ((NoSoup, not b) ∷ bind_tests w None name g)) (sym is ∙ e)

    pub all-refused : (fault : StoreFault) → Binds (bind_tests w None name g) (query_of w None name g) (Err fault) → Answers {T = ℕ} w w (command.QueryAll name g) (λ n. Reply.number n) (Err fault)
    all-refused fault h = refused-asked w (command.QueryAll name g) (all_tests w name g) all-are (query_of w None name g) fault
        (binds-same (bind_tests w None name g) (all_tests w name g) (query_of w None name g) (query_of w None name g) there refl (Err fault) h)

    pub all-opens : IsSettled (changed w (command.QueryAll name g)) → (v : World) (asked : code.Query) → Binds (bind_tests w None name g) (query_of w None name g) (Ok asked) → (r : Result ℕ StoreFault) → Opens w v (seen asked) r
        → Answers w v (command.QueryAll name g) (λ n. Reply.number n) r
    all-opens settled v asked h r o =
        opens-answer w (command.QueryAll name g) (all_tests w name g) all-are (seen asked) (query_of w None name g) all-does all-says (sym there ∙ h.0) h.1 settled v r o

-- ---- the soup of a unit

module _ (w : World) (u : ℕ) (name : List ℕ) (g : RawGraph) where
  pub fails-asked : (known : Checks) → known ≡ soup_checks w u name → (fault : StoreFault) → RefusesBy known fault
      → Binds (query_tests w u name g) (query_of w (Some (sig_of w u)) name g) (Err fault)
  fails-asked known is (Refused r) h = first-found (soup_checks w u name) (bind_tests w (Some (sig_of w u)) name g) r (ap first_of (sym is) ∙ h)
  fails-asked known is (Stop stop) h = absurd h

  module _ (s : Store) (p : Soup) (m : mounted_store w u ≡ Some s) (named : soup_named name s ≡ Some p) where
    there-device : (o : Option Device) → option_and_then store_if_mounted o ≡ Some s → is_none o ≡ false
    there-device None e = absurd (none-some s e)
    there-device (Some d) e = refl

    passes : first_of (soup_checks w u name) ≡ None
    passes = λ i. first_of ((NoUnit, there-device (device w u) m i) ∷ (Notmounted, ap is_none m i) ∷ (NoSoup, ap is_none (ap (option_and_then (soup_named name)) m ∙ named) i) ∷ [])

    sig-is : sig_of w u ≡ s.sig
    sig-is = ap (λ (o : Option Store). elim o [ None ↦ 0 | Some s ↦ s.sig ]) m

    pub asked-on : (sig : ℕ) → sig ≡ s.sig → (r : Result code.Query StoreFault) → Binds (bind_tests w (Some sig) name g) (query_of w (Some sig) name g) r
        → Binds (query_tests w u name g) (query_of w (Some (sig_of w u)) name g) r
    asked-on sig e r h =
        let is : sig ≡ sig_of w u = e ∙ sym sig-is in
        binds-same (bind_tests w (Some sig) name g) (query_tests w u name g) (query_of w (Some sig) name g) (query_of w (Some (sig_of w u)) name g)
        (ap (λ n. first_of (bind_tests w (Some n) name g)) is ∙ sym (first-on (soup_checks w u name) (bind_tests w (Some (sig_of w u)) name g) passes))
        (ap (λ n. query_of w (Some n) name g) is) r h

-- ---- one unit after another

any-unit : (p : ℕ → Bool) (u : ℕ) (o : Option Store) (rest : List (ℕ × Store)) → (o ≡ None → p u ≡ false)
    → list_any (λ m. p m.0) (cons_option (option_map (λ s. (u, s)) o) rest) ≡ (p u || list_any (λ m. p m.0) rest)
any-unit p u None rest gone = ap (λ b. b || list_any (λ m. p m.0) rest) (sym (gone refl))
any-unit p u (Some s) rest gone = refl

abbrev at : ℕ → Option Store → Option (ℕ × Store)
at u o = option_map (λ s. (u, s)) o

pub any-eight : (p : ℕ → Bool) (o : ℕ → Option Store) → ((u : ℕ) → o u ≡ None → p u ≡ false)
    → list_any (λ m. p m.0) (cons_option (at 0 (o 0)) (cons_option (at 1 (o 1)) (cons_option (at 2 (o 2)) (cons_option (at 3 (o 3)) (cons_option (at 4 (o 4)) (cons_option (at 5 (o 5)) (cons_option (at 6 (o 6)) (cons_option (at 7 (o 7)) []))))))))
    ≡ list_any p unit_numbers
any-eight p o gone =
    any-unit p 0 (o 0) (cons_option (at 1 (o 1)) (cons_option (at 2 (o 2)) (cons_option (at 3 (o 3)) (cons_option (at 4 (o 4)) (cons_option (at 5 (o 5)) (cons_option (at 6 (o 6)) (cons_option (at 7 (o 7)) []))))))) (gone 0)
    ∙ ap (λ b. p 0 || b) (any-unit p 1 (o 1) (cons_option (at 2 (o 2)) (cons_option (at 3 (o 3)) (cons_option (at 4 (o 4)) (cons_option (at 5 (o 5)) (cons_option (at 6 (o 6)) (cons_option (at 7 (o 7)) [])))))) (gone 1)
    ∙ ap (λ b. p 1 || b) (any-unit p 2 (o 2) (cons_option (at 3 (o 3)) (cons_option (at 4 (o 4)) (cons_option (at 5 (o 5)) (cons_option (at 6 (o 6)) (cons_option (at 7 (o 7)) []))))) (gone 2)
    ∙ ap (λ b. p 2 || b) (any-unit p 3 (o 3) (cons_option (at 4 (o 4)) (cons_option (at 5 (o 5)) (cons_option (at 6 (o 6)) (cons_option (at 7 (o 7)) [])))) (gone 3)
    ∙ ap (λ b. p 3 || b) (any-unit p 4 (o 4) (cons_option (at 5 (o 5)) (cons_option (at 6 (o 6)) (cons_option (at 7 (o 7)) []))) (gone 4)
    ∙ ap (λ b. p 4 || b) (any-unit p 5 (o 5) (cons_option (at 6 (o 6)) (cons_option (at 7 (o 7)) [])) (gone 5)
    ∙ ap (λ b. p 5 || b) (any-unit p 6 (o 6) (cons_option (at 7 (o 7)) []) (gone 6)
    ∙ ap (λ b. p 6 || b) (any-unit p 7 (o 7) [] (gone 7))))))))

-- a unit more
module _ (p : ℕ → Bool) (all : Bool) (n : ℕ) (h : list_any p (drop n unit_numbers) ≡ all) where
  next-unit : (b : Bool) → n < 8 → p n ≡ b → (b || list_any p (drop (n + 1) unit_numbers)) ≡ all
  next-unit b lt e = sym (ap (list_any p) (drop-step (λ u. u) n lt) ∙ ap (λ b. b || list_any p (drop (n + 1) unit_numbers)) e) ∙ h

  pub not-here : n < 8 → p n ≡ false → list_any p (drop (n + 1) unit_numbers) ≡ all
  not-here lt e = next-unit false lt e

  pub is-here : n < 8 → p n ≡ true → true ≡ all
  is-here lt e = next-unit true lt e
