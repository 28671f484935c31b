-- Commands are answered by what the cards do.
use Rattle.std.proofs.Common.{◌≡◌, ap, sym, ◌∙◌, ℕ, List, true, Option, Some, None, replicate, option_and_then, ◌==◌}
use Rattle.std.specs.Prelude.{Result, Ok, Err}
use Rattle.newt_base.specs.Refusals.{first_of}
use Rattle.newt_base.specs.declared.Refusal.{Refusal}
use Rattle.newt_graph.specs.Graph.{RawGraph}
use Rattle.newt_spec_store.specs.Store.{Store, Soup, Entry, soup_named, entry_of, soup_of, entry_at}
use Rattle.newt_spec_world.specs.declared.command.Command.{Command}
use Rattle.newt_spec_world.specs.declared.command.Command.TheVariants as command
use Rattle.newt_spec_world.specs.Reply.{Reply}
use Rattle.newt_spec_world.specs.World.{World}
use Rattle.newt_spec_world.specs.Answer.{answer}
use Rattle.newt_laws_answers.specs.Tests.{entry_checks}
use Rattle.newt_laws_answers.specs.There.{OnUnit}
use Rattle.newt_base.specs.Names.{equal_text}
use Rattle.newt_spec_store.specs.Valid.{well_formed, valid_entry, valid_soup}
use Rattle.newt_laws_images.proofs.Stores.{is-store, is-soup}
use Rattle.newt_laws_world.proofs.Soups.{found-good}
use Rattle.newt_laws_answers.proofs.Entries.{no-entry, get-done, getx-done, get-refused, getx-refused, alias-done}
use Rattle.newt_store_change.specs.declared.fault.StoreFault.{StoreFault}
use Rattle.newt_store_change.specs.declared.fault.StoreFault.TheVariants.{Refused, Stop}
use Rattle.newt_base.specs.declared.Refusal.TheVariants.{Entry as NoEntry}
use Rattle.newt_store_change.specs.declared.entry.Entry.{Entry as Shown}
use Rattle.newt_engine_units.specs.Answers.{Answers}
use Rattle.newt_store_change.specs.Entries.{ReadsEntry, entry_said}

-- ---- an entry that is read

module _ (w v : World) (u blocks : ℕ) (s : Store) (name : List ℕ) (p : Soup) (uid : ℕ) (on : OnUnit w u blocks s) (named : soup_named name s ≡ Some p) (none : w.cursors ≡ replicate 32 None) (same : v ≡ w) where
  as-refused : (c : Command) (r : Refusal) → ((q : Refusal) → first_of (entry_checks w u name uid) ≡ Some q → answer w c ≡ (w, Reply.refused q)) → entry_of uid p ≡ None → r ≡ NoEntry
      → answer w c ≡ (v, Reply.refused r)
  as-refused c r refused h is = refused NoEntry (no-entry w u blocks s name p uid on named h) ∙ ap {B = World × Reply} (λ q. (w, Reply.refused q)) (sym is) ∙ ap {B = World × Reply} (λ x. (x, Reply.refused r)) (sym same)

  pub get-answers : (result : Result Shown StoreFault) → ReadsEntry (entry_of uid p) result → Answers w v (command.Get u name uid) (λ e. Reply.timed e.time e.graph) result
  get-answers (Ok e) h = get-done w u blocks s name p uid on named _ (sym h) none ∙ ap {B = World × Reply} (λ x. (x, Reply.timed e.time e.graph)) (sym same)
  get-answers (Err (Refused r)) h = as-refused (command.Get u name uid) r (get-refused w u name uid) h.0 h.1
  get-answers (Err (Stop stop)) h = tt

  pub getx-answers : (result : Result Shown StoreFault) → ReadsEntry (entry_of uid p) result → Answers w v (command.Getx u name uid) (λ e. Reply.timed_nsof e.time e.graph) result
  getx-answers (Ok e) h = getx-done w u blocks s name p uid on named _ (sym h) none ∙ ap {B = World × Reply} (λ x. (x, Reply.timed_nsof e.time e.graph)) (sym same)
  getx-answers (Err (Refused r)) h = as-refused (command.Getx u name uid) r (getx-refused w u name uid) h.0 h.1
  getx-answers (Err (Stop stop)) h = tt

-- ---- an entry that is copied

-- an entry of a store that is read is within the limits
pub entry-fits : (s : Store) (name : List ℕ) (p : Soup) (uid : ℕ) (e : Entry) → well_formed s ≡ true → soup_named name s ≡ Some p → entry_of uid p ≡ Some e
    → valid_entry e ≡ true
entry-fits s name p uid e ok named found =
    found-good valid_entry (λ v. v.uid == uid) p.entries e (is-soup p (found-good valid_soup (λ v. equal_text v.name name) s.soups p (is-store s ok).soups_fit named)).entries_fit found

-- what was read is the entry
pub read-found : (sig uid : ℕ) (s : Store) (p : Soup) (x : Shown) (g : RawGraph) → g ≡ x.graph → soup_of sig s ≡ Some p → entry_said (Some x) ≡ entry_at sig uid s
    → entry_of uid p ≡ Some (record { uid = x.uid; time = x.time; graph = g })
read-found sig uid s p x g is by h = sym (h ∙ ap (option_and_then (entry_of uid)) by) ∙ ap {A = RawGraph} {B = Option Entry} (λ y. Some (record { uid = x.uid; time = x.time; graph = y })) (sym is)

-- ---- aliases

pub alias-answers : (w : World) (u blocks : ℕ) (s : Store) (name : List ℕ) (p : Soup) (uid : ℕ) → OnUnit w u blocks s → soup_named name s ≡ Some p → w.cursors ≡ replicate 32 None → (e : Entry) → entry_of uid p ≡ Some e
    → (store soup : ℕ) → s.sig ≡ store → p.sig ≡ soup → Answers {T = ℕ × ℕ} w w (command.Alias u name uid) (λ x. Reply.alias x.0 x.1 uid) (Ok (store, soup))
alias-answers w u blocks s name p uid on named none e found store soup a b = alias-done w u blocks s name p uid on named e found none
    ∙ ap {B = World × Reply} (λ x. (w, Reply.alias x p.sig uid)) a ∙ ap {B = World × Reply} (λ x. (w, Reply.alias store x uid)) b
