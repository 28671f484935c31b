-- Commands on the large binaries of an entry.
use Rattle.std.proofs.Common.{◌≡◌, refl, ap, sym, ◌∙◌, ℕ, List, Option, Some, None, replicate}
use Rattle.std.specs.Prelude.{Result, Ok, Err}
use Rattle.newt_base.specs.declared.Refusal.TheVariants.{Entry as NoEntry}
use Rattle.newt_spec_graph.proofs.Lists.{none-some, some-same}
use Rattle.newt_spec_store.specs.Keys.{Path}
use Rattle.newt_spec_store.specs.Store.{Store, Soup, Entry, soup_named, entry_of}
use Rattle.newt_spec_world.specs.declared.command.Command.TheVariants as command
use Rattle.newt_spec_world.specs.Reply.{Reply}
use Rattle.newt_spec_world.specs.World.{World}
use Rattle.newt_laws_answers.specs.There.{OnUnit}
use Rattle.newt_laws_answers.proofs.Entries.{no-entry}
use Rattle.newt_laws_answers.proofs.Larges.{vread-done, vread-not-found, vread-refused}
use Rattle.newt_store_change.specs.declared.fault.StoreFault.{StoreFault}
use Rattle.newt_store_change.specs.declared.fault.StoreFault.TheVariants.{Refused, Stop}
use Rattle.newt_engine_units.specs.Answers.{Answers}
use Rattle.newt_store_change.specs.Entries.{ReadsLarge}

-- ---- bytes are read

pub vread-answers : (w v : World) (u blocks : ℕ) (s : Store) (name : List ℕ) (p : Soup) (uid : ℕ) → OnUnit w u blocks s → soup_named name s ≡ Some p → w.cursors ≡ replicate 32 None → v ≡ w
    → (path : Path) (at many : ℕ) (result : Result (List ℕ) StoreFault) → ReadsLarge path at many (entry_of uid p) result → Answers w v (command.Vread u name uid path at many) (λ bytes. Reply.hex bytes) result
vread-answers w v u blocks s name p uid on named none same path at many result read = go (entry_of uid p) refl result read
  where
    go : (o : Option Entry) → entry_of uid p ≡ o → (result : Result (List ℕ) StoreFault) → ReadsLarge path at many o result → Answers w v (command.Vread u name uid path at many) (λ bytes. Reply.hex bytes) result
    go (Some e) found (Ok bytes) r = vread-done w u blocks s name p uid on named e found path at many r.0 none
        ∙ ap {B = World × Reply} (λ xs. (w, Reply.hex xs)) (sym r.1) ∙ ap {B = World × Reply} (λ x. (x, Reply.hex bytes)) (sym same)
    go (Some e) found (Err (Refused q)) r = vread-refused w u blocks s name p uid on named e found path at many q r ∙ ap {B = World × Reply} (λ x. (x, Reply.refused q)) (sym same)
    go (Some e) found (Err (Stop stop)) r = tt
    go None gone (Ok bytes) r = absurd (none-some NoEntry (sym r.0))
    go None gone (Err (Refused q)) r = vread-not-found w u name uid NoEntry (no-entry w u blocks s name p uid on named gone) path at many
        ∙ ap {B = World × Reply} (λ x. (w, Reply.refused x)) (some-same NoEntry q r) ∙ ap {B = World × Reply} (λ x. (x, Reply.refused q)) (sym same)
    go None gone (Err (Stop stop)) r = tt
