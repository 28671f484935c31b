-- What the engine does by the known world, in every world that it stands for.
use Rattle.std.proofs.Common.{◌≡◌, ◌≢◌, ◌⊎◌, inl, inr, refl, ap, sym, ◌∙◌, subst, ℕ, ◌≤◌, List, Bool, true, false, IsTrue, Option, Some, None, ◌==◌, if◌then◌else◌}
use Rattle.std.proofs.lemmas.Bool.{eq-eqb, eqb-true, ne_eqb}
use Rattle.std.specs.declared.alloc.AllocError.{AllocError}
use Rattle.std.specs.Prelude.{IsSome, is_some, Result, Ok, Err, IfErr, IfOk}
use Rattle.newt_base.specs.Refusals.{first_of}
use Rattle.newt_base.specs.declared.Refusal.{Refusal}
use Rattle.newt_host.specs.Moments.{Moment, image}
use Rattle.newt_host.specs.Outside.{Outside, Broke, NoFault, OnDevices, Rose, SameCards}
use Rattle.newt_host.proofs.Outside.{Broke-on, Broke-rose}
use Rattle.newt_pagebook.specs.Stops.{HasStopCause}
use Rattle.newt_pagebook.specs.declared.book.Stop.TheVariants as stops
use Rattle.newt_reply.specs.Said.{said}
use Rattle.newt_reply.specs.declared.reply.Reply.{Reply}
use Rattle.newt_reply.specs.declared.reply.Reply.TheVariants as reply
use Rattle.newt_spec_graph.proofs.Lists.{both-ways, none-some, some-same}
use Rattle.newt_spec_query.specs.Cursor.{Cursor}
use Rattle.newt_spec_script.specs.Rows.{throws}
use Rattle.newt_spec_store.specs.Store.{Store}
use Rattle.newt_spec_world.specs.Answer.{answer}
use Rattle.newt_spec_world.specs.First.{media_of}
use Rattle.newt_spec_world.specs.Reply as plain
use Rattle.newt_spec_world.specs.Step.{thrown_out}
use Rattle.newt_spec_world.specs.World.{World, Device, Media, change_device, lost, settle}
use Rattle.newt_spec_world.specs.declared.command.Command.{Command}
use Rattle.newt_laws_world.specs.Settled.{IsSettled, MountedApart}
use Rattle.newt_laws_world.specs.Worlds.{OnMedia}
use Rattle.newt_laws_world.proofs.Kept.{Every, Wf}
use Rattle.newt_laws_world.proofs.Mounted.{change-sigs, sigs-apart}
use Rattle.newt_laws_steps.specs.StandsFor.{Turned, seen}
use Rattle.newt_laws_steps.specs.Thrown.{FaultsTold, Threw}
use Rattle.newt_engine_units.specs.Breaks.{FailsAlone}
use Rattle.newt_engine_units.specs.Stands.{Eight, Stands, StandsBut, world_of}
use Rattle.newt_engine_units.specs.declared.units.Units.{Units}
use Rattle.newt_engine_units.proofs.Known.{Laws, at-card, at-none}
use Rattle.newt_engine_cursors.specs.Fits.{DeskFits}
use Rattle.newt_engine_cursors.specs.World.{world_with}
use Rattle.newt_engine.specs.Calls.{ThrownBroke}
use Rattle.newt_engine.specs.Standing.{Standing}
use Rattle.newt_engine.proofs.Refusing.{refused_stays}
use Rattle.newt_engine.proofs.Outcast.{out-settled}

pub standing-told : {C : Type 0} {reads : List ℕ → Option Store} {place : C → ℕ} {stands : Bool → C → Outside → Type 0} {told : Bool} {units : Units C} {ks : List (Option Cursor)} {o : Outside}
    → Standing reads place stands told units ks o → IsTrue told → Standing reads place stands true units ks o
standing-told {reads = reads} {place} {stands} {units = units} {ks} {o} s t = subst (λ b. Standing reads place stands b units ks o) t s

-- every store that a unit has is well formed
pub known-formed : {C : Type 0} {reads : List ℕ → Option Store} {place : C → ℕ} {soups : C → Store} {stands : Bool → C → Outside → Type 0} → Laws reads place soups stands → (units : Units C) (ks : List (Option Cursor)) (o : Outside)
    → Standing reads place stands true units ks o → Every Wf (world_with reads units ks o)
known-formed {reads = reads} l units ks o s u k d is = go (o.card u) refl
  where
    media : (due : Bool) (m : Option Store) → reads (image u o.now) ≡ m → OnMedia Wf (o.blocks u) (if due then lost else media_of m)
    media true m e = tt
    media false None e = tt
    media false (Some x) e = l.formed (image u o.now) x e

    go : (card : Option (List ℕ)) → o.card u ≡ card → OnMedia Wf d.blocks d.media
    go None e = absurd (none-some d (sym (at-none l units o s.eight s.stand u e) ∙ is))
    go (Some name) e = subst (λ (x : Device). OnMedia Wf x.blocks x.media) (some-same _ d (sym (at-card l units o s.eight s.stand u name e) ∙ is)) (media _ (reads (image u o.now)) refl)

-- ---- refused

-- a refusal leaves the world as the command saw it
pub refused-leaves : (reads : List ℕ → Option Store) (P : World → Type 0) (w : World) (c : Command) (old : Moment) (next : World) (it : Reply) (r : Refusal) → ◌≡◌ {A = Result Reply AllocError} (Ok it) (Ok (reply.Refused r))
    → Turned reads w c old next (said it) → P next → P (seen reads w old c)
refused-leaves reads P w c old next it r is turned p =
    subst P (sym (ap {A = World × plain.Reply} (λ a. a.0) done) ∙ refused_stays (seen reads w old c) c r (ap {A = World × plain.Reply} (λ a. a.1) done)) p
  where
    said-is : said it ≡ plain.Reply.refused r
    said-is = ap said (ok_same it (reply.Refused r) is)
      where
        ok_same : (x y : Reply) → ◌≡◌ {A = Result Reply AllocError} (Ok x) (Ok y) → x ≡ y
        ok_same x y k = cc

    done : answer (seen reads w old c) c ≡ (next, plain.Reply.refused r)
    done = turned.is_plain (λ u thrown. absurd (both-ways (ap (throws u) (sym said-is ∙ thrown) ∙ eq-eqb u u refl))) ∙ ap {B = World × plain.Reply} (λ x. (next, x)) said-is

-- ---- faults

pub quiet-threw : (it : Reply) (o p : Outside) → ((u : ℕ) → throws u (said it) ≡ false) → OnDevices o p → Threw (said it) o.dev_faults p.dev_faults
quiet-threw it o p quiet alone = record { later = alone.dev_faults; rose = λ u h. absurd (both-ways (sym (quiet u) ∙ h)) }

pub thrown-threw : (u : ℕ) (o p : Outside) → OnDevices o p → Broke u o p → Threw (plain.Reply.thrown u) o.dev_faults p.dev_faults
thrown-threw u o p alone broke = record { later = alone.dev_faults; rose = λ n h. subst (λ k. Rose (o.dev_faults k) (p.dev_faults k)) (sym (eqb-true n u h)) (Broke-rose broke) }

-- it broke, and no other is named
pub thrown-broke : (u : ℕ) (o p : Outside) → Broke u o p → ThrownBroke (reply.Thrown u) o p
thrown-broke u o p broke n h = Broke-on (sym (eqb-true n u h)) broke

pub thrown-failed : (u : ℕ) (o p : Outside) → FailsAlone o p u → FaultsTold (plain.Reply.thrown u) o.dev_faults p.dev_faults
thrown-failed u o p failed n h = failed.others n (λ is. both-ways (sym h ∙ eq-eqb n u is))

-- ---- thrown out

pub out-apart : (w : World) (u : ℕ) → MountedApart w → MountedApart (thrown_out w u (λ _. lost))
out-apart w u h = sigs-apart (change_device w u (λ d. record d { media = lost; mounted = false })) w
    (change-sigs w u (λ d. record d { media = lost; mounted = false }) (λ d t f. absurd (none-some t f))) h

-- units and cursors stand then, for the known world without the unit
pub thrown-standing : {C : Type 0} {reads : List ℕ → Option Store} {place : C → ℕ} {stands : Bool → C → Outside → Type 0} {told : Bool} {units : Units C} {ks : List (Option Cursor)} {p : Outside}
    → Stands place stands told units p → Eight p → DeskFits ks → (IsTrue told → (v : World) × (world_with reads units ks p ≡ v) × MountedApart v × IsSettled v) → Standing reads place stands told units ks p
thrown-standing stand eight desk is = record {
  stand = stand;
  eight = eight;
  desk = desk;
  apart = λ t. let r = is t in subst MountedApart (sym r.1) r.2;
  settled = λ t. let r = is t in subst IsSettled (sym r.1) r.3;
}

-- which is as before but for the unit
pub thrown-known : {C : Type 0} {reads : List ℕ → Option Store} {place : C → ℕ} {soups : C → Store} {stands : Bool → C → Outside → Type 0} → Laws reads place soups stands → (units : Units C) (ks : List (Option Cursor)) (o : Outside)
    → Standing reads place stands true units ks o → (u : ℕ) → let v = thrown_out (world_with reads units ks o) u (λ _. lost) in MountedApart v × IsSettled v
thrown-known {reads = reads} l units ks o s u = (out-apart (world_with reads units ks o) u (s.apart refl), out-settled (world_with reads units ks o) u (known-formed l units ks o s) (s.apart refl) (s.settled refl))
