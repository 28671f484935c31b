-- A command is answered by what a card does; the command `format`.
use Rattle.std.proofs.Common.{◌≡◌, refl, ap, sym, ◌∙◌, subst, ℕ, List, true, ◌&&◌, Option, Some, None, replicate, option_map, option_and_then, false}
use Rattle.std.specs.Prelude.{Result, Ok, Err, OnOk, IfErr, is_none, is_some}
use Rattle.std.proofs.lemmas.Bool.{eq-eqb}
use Rattle.newt_base.specs.Refusals.{Checks, first_of}
use Rattle.newt_base.specs.declared.Refusal.{Refusal}
use Rattle.newt_spec_store.specs.Store.{Store, new_store}
use Rattle.newt_spec_world.specs.declared.command.Command.{Command}
use Rattle.newt_spec_world.specs.declared.command.Command.TheVariants as command
use Rattle.newt_spec_world.specs.Reply.{Reply}
use Rattle.newt_spec_world.specs.Step.{formats, is_accepted}
use Rattle.newt_spec_world.specs.World.{World, Device, IsBlankOn, blank, one, store_of, store_on_unit, change_store}
use Rattle.newt_spec_world.specs.Answer.{answer}
use Rattle.newt_laws_answers.specs.Tests.{formatted}
use Rattle.newt_laws_answers.specs.There.{OnUnit, IsReady}
use Rattle.newt_laws_answers.proofs.Units.{on-changed, is-there}
use Rattle.newt_spec_graph.proofs.Lists.{both-ways}
use Rattle.newt_spec_world.specs.First.{media_of}
use Rattle.newt_laws_world.proofs.Units.{device-same}
use Rattle.newt_laws_answers.proofs.Stores.{format-has-store, format-done, format-passes}
use Rattle.newt_store_change.specs.declared.fault.StoreFault.{StoreFault}
use Rattle.newt_store_change.specs.declared.fault.StoreFault.TheVariants.{Refused, Stop}
use Rattle.newt_base.specs.declared.Refusal.TheVariants.{Store as HasStore}
use Rattle.newt_store_change.specs.Faults.{RefusesBy, IsEnd}
use Rattle.newt_engine_units.specs.Answers.{Answers}

-- refused before anything is done
pub refuses : {T : Type 0} (w : World) (c : Command) (reply : T → Reply) (checks known : Checks) → known ≡ checks → ((r : Refusal) → first_of checks ≡ Some r → answer w c ≡ (w, Reply.refused r))
    → (fault : StoreFault) → RefusesBy known fault → Answers w w c reply (Err fault)
refuses w c reply checks known same refused (Refused r) h = refused r (sym (ap first_of same) ∙ h)
refuses w c reply checks known same refused (Stop stop) h = absurd h

-- the store of a unit after a change of it
pub makes : (w : World) (u blocks : ℕ) (s : Store) (f : Store → Store) (a : World × Reply) (r : Reply) → OnUnit w u blocks s → a ≡ (change_store w u f, r) → store_on_unit a.0 u ≡ Some (f s)
makes w u blocks s f a r on is = ap {A = World × Reply} (λ x. store_on_unit x.0 u) is ∙ is-there (change_store w u f) u blocks (f s) (on-changed w u blocks s f on)

module _ (w v : World) (u blocks : ℕ) (found : Option Store) (name : List ℕ) (sig : ℕ) (h : IsReady w u blocks (media_of found)) (none : w.cursors ≡ replicate 32 None) where
  format-has : is_some found ≡ true → answer w (command.Format u name sig) ≡ (w, Reply.refused HasStore)
  format-has k = go found refl k
    where
      go : (o : Option Store) → found ≡ o → is_some o ≡ true → answer w (command.Format u name sig) ≡ (w, Reply.refused HasStore)
      go None e x = absurd (both-ways x)
      go (Some s) e x = format-has-store w u blocks s name sig (subst (λ o. IsReady w u blocks (media_of o)) e h)

  pub format-has-answers : is_some found ≡ true → v ≡ w → Answers {T = Unit {0}} w v (command.Format u name sig) (λ _. Reply.done) (Err (Refused HasStore))
  format-has-answers k same = format-has k ∙ ap {B = World × Reply} (λ x. (x, Reply.refused HasStore)) (sym same)

  pub format-is : is_some found ≡ false → answer w (command.Format u name sig) ≡ (formatted w u name sig, Reply.done)
  format-is k = go found refl k
    where
      go : (o : Option Store) → found ≡ o → is_some o ≡ false → answer w (command.Format u name sig) ≡ (formatted w u name sig, Reply.done)
      go None e x = format-done w u blocks name sig (subst (λ o. IsReady w u blocks (media_of o)) e h) none
      go (Some s) e x = absurd (both-ways (sym x))

  pub format-answers : is_some found ≡ false → (result : Result (Unit {0}) StoreFault) → OnOk result (v ≡ formatted w u name sig) → IfErr result (λ fault. IsEnd fault) → Answers w v (command.Format u name sig) (λ _. Reply.done) result
  format-answers k (Ok x) made end = format-is k ∙ ap {B = World × Reply} (λ y. (y, Reply.done)) (sym made)
  format-answers k (Err (Refused r)) made end = absurd end
  format-answers k (Err (Stop stop)) made end = tt

  pub format-makes : is_some found ≡ false → store_on_unit (answer w (command.Format u name sig)).0 u ≡ Some (new_store name sig)
  format-makes k = ap {A = World × Reply} (λ x. store_on_unit x.0 u) (format-is k)
      ∙ ap (option_and_then (λ (d : Device). store_of d.media)) (device-same w u (λ d. record d { media = one (new_store name sig); mounted = false }) ∙ ap (option_map (λ (d : Device). record d { media = one (new_store name sig); mounted = false })) h.device_is)

  pub format-blank : is_some found ≡ false → IsBlankOn w u
  format-blank k = (_, h.device_is, go found k)
    where
      go : (o : Option Store) → is_some o ≡ false → media_of o ≡ blank
      go None x = refl
      go (Some s) x = absurd (both-ways (sym x))

  -- no test refuses it
  pub format-formats : is_some found ≡ false → formats w (command.Format u name sig) u ≡ true
  format-formats k = ap (λ b. b && is_accepted w (command.Format u name sig)) (eq-eqb u u refl)
      ∙ ap is_none (format-passes w u blocks name sig (subst (IsReady w u blocks) (no-store found k) h))
    where
      no-store : (o : Option Store) → is_some o ≡ false → media_of o ≡ blank
      no-store None x = refl
      no-store (Some s) x = absurd (both-ways (sym x))
