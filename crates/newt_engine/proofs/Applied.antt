-- What the world promises of a command, by what it does to the known one.
use Rattle.std.proofs.Common.{◌≡◌, ◌≢◌, ◌⊎◌, inl, inr, refl, ap, sym, ◌∙◌, subst, ℕ, List, Bool, true, IsTrue, Option, Some}
use Rattle.std.proofs.lemmas.Bool.{eq-eqb}
use Rattle.std.specs.declared.alloc.AllocError.{AllocError}
use Rattle.std.specs.Prelude.{IsSome, Result, Ok, Err}
use Rattle.newt_host.specs.Moments.{MayLeave, bytes_after, image}
use Rattle.newt_host.specs.Outside.{Outside}
use Rattle.newt_host.proofs.Moments.{Always-last}
use Rattle.newt_pagebook.specs.declared.book.Stop.TheVariants as stops
use Rattle.newt_reply.specs.Said.{said}
use Rattle.newt_reply.specs.declared.reply.Reply.{Reply}
use Rattle.newt_reply.specs.declared.reply.Reply.TheVariants as reply
use Rattle.newt_spec_store.specs.Store.{Store}
use Rattle.newt_spec_store.specs.Valid.{valid}
use Rattle.newt_spec_graph.proofs.Lists.{both-ways}
use Rattle.newt_spec_world.specs.Reply as plain
use Rattle.newt_spec_world.specs.Changed.{changed}
use Rattle.newt_spec_world.specs.Step.{thrown_out}
use Rattle.newt_spec_world.specs.World as plain_world
use Rattle.newt_spec_world.specs.World.{lost, settle}
use Rattle.newt_spec_world.specs.declared.command.Command.{Command}
use Rattle.newt_store_change.specs.declared.fault.StoreFault.{StoreFault}
use Rattle.newt_store_change.specs.declared.fault.StoreFault.TheVariants.{Refused, Stop}
use Rattle.newt_laws_world.specs.Settled.{IsSettled, MountedApart}
use Rattle.newt_laws_world.proofs.Kept.{all-false}
use Rattle.newt_laws_world.proofs.Mounted.{row-apart}
use Rattle.newt_laws_world.proofs.Settled.{settle-settles}
use Rattle.newt_laws_steps.specs.StandsFor.{StandsFor}
use Rattle.newt_laws_steps.proofs.Standing.{is-accepted}
use Rattle.newt_spec_world.specs.Refused.{checks}
use Rattle.newt_engine_card.specs.Bounds.{IsOpenOrSame}
use Rattle.newt_engine_units.specs.Breaks.{FailsAlone}
use Rattle.newt_engine_units.specs.Stands.{Eight, Stands, StandsBut, world_of}
use Rattle.newt_engine_units.proofs.Known.{Laws}
use Rattle.newt_engine_cursors.specs.Fits.{DeskFits}
use Rattle.newt_laws_world.specs.Cursors.{with_cursors}
use Rattle.newt_engine.specs.Calls.{Applied, Fails, FailsHalfway, Finished, Served}
use Rattle.newt_engine.specs.Laws.{units_kept}
use Rattle.newt_engine.specs.Standing.{IsStanding, Standing, marks_of, stood_for}
use Rattle.newt_engine.specs.declared.world.World.{World}
use Rattle.newt_engine.proofs.Applying.{known-formed, out-apart, quiet-threw, refused-leaves, standing-told, thrown-broke, thrown-failed, thrown-known, thrown-standing, thrown-threw}
use Rattle.newt_engine.proofs.Halfway.{lift-halfway}
use Rattle.newt_engine.proofs.Lifting.{lift-answer, lift-memory}
use Rattle.newt_engine.proofs.Outcast.{out-settled}
use Rattle.newt_engine.proofs.Thrown.{lift-thrown}

module _ {C : Type 0} {reads : List ℕ → Option Store} {place : C → ℕ} {soups : C → Store} {stands : Bool → C → Outside → Type 0} (laws : Laws reads place soups stands) {told : Bool} {c : Command} {old : World C} {o p : Outside}
    (begun : IsStanding reads place stands told old o) (may : IsTrue told → (u : ℕ) → IsSome (o.card u) → MayLeave u o.now (image u o.now))
    (good : IsTrue told → (u : ℕ) (s : Store) → IsSome (o.card u) → reads (image u o.now) ≡ Some s → IsTrue (valid (o.blocks u) s)) where
  -- ---- it is answered

  pub applied-done : {new : World C} (it : Reply) → Served reads place stands told c old new o p (Ok it) → Applied reads place stands told c old new o p (Ok it)
  applied-done {new} it e = record {
    stands = e.stands tt;
    obeyed = λ t w means. lift-answer reads (marks_of old) o c (units_kept laws old.units old.desk o (standing-told begun t)) (may t) (good t) p (e.moments t)
        (marks_of new) (units_kept laws new.units new.desk p (standing-told (e.stands tt) t)) e.alone.cards (said it) (e.answered t) w means;
    finished = record {
      alone = e.alone;
      bound = λ t other. (e.costs t).bound other;
      format = λ t. (e.costs t).format;
      fresh = e.fresh;
      settling = λ t. (e.costs t).fetched;
      step = e.step;
      shown = λ un quiet. e.shown un;
      open_after = λ t u other. (e.costs t).open_after tt u;
      threw = quiet-threw it o p e.ends.quiet e.alone;
      broke = λ u h. absurd (both-ways (sym (e.ends.quiet u) ∙ h));
      failed = λ u h. (e.ends.no_fault tt).dev_faults u;
      unhidden = tt;
      later = e.alone.dev_faults;
      never_memory = λ none. refl;
      never_thrown = λ none. e.ends.quiet;
    };
    known = λ t quiet. sym (ap {A = plain_world.World × plain.Reply} (λ a. a.0) (e.answered t));
    beside = λ t. (Always-last (e.moments t)).beside;
    refused = λ t r is w means.
        let k = lift-answer reads (marks_of old) o c (units_kept laws old.units old.desk o (standing-told begun t)) (may t) (good t) p (e.moments t)
        (marks_of new) (units_kept laws new.units new.desk p (standing-told (e.stands tt) t)) e.alone.cards (said it) (e.answered t) w means in
        refused-leaves reads (StandsFor reads (marks_of new) p) w c o.now k.0 it r is k.1 k.2;
    kept = e.kept;
  }

  -- ---- it is refused

  pub applied-refused : {new : World C} (r : _) → Served reads place stands told c old new o p (Err (Refused r)) → Applied reads place stands told c old new o p (Ok (reply.Refused r))
  applied-refused {new} r e = applied-done (reply.Refused r) (record {
    stands = λ goes. e.stands tt;
    answered = e.answered;
    moments = e.moments;
    costs = λ t. let k = e.costs t in record { bound = k.bound; format = k.format; fetched = k.fetched; open_after = λ goes. k.open_after tt };
    step = e.step;
    shown = e.shown;
    fresh = λ t u is says. absurd (cc);
    alone = e.alone;
    broke = tt;
    kept = λ idle. e.kept tt;
    ends = record {
      cause = tt;
      no_fault = λ goes. e.ends.no_fault tt;
      memory = λ none. tt;
      device = λ none. tt;
      quiet = λ u. refl;
    };
  })

  -- ---- memory was refused

  pub applied-memory : {new : World C} (error : AllocError) → Served reads place stands told c old new o p (Err (Stop stops.Memory)) → Applied reads place stands told c old new o p (Err error)
  applied-memory {new} error e = record {
    stands = tt;
    obeyed = λ t w means. lift-memory reads (marks_of old) o c (units_kept laws old.units old.desk o (standing-told begun t)) (may t) (good t) p (e.moments t) w means;
    finished = record {
      alone = e.alone;
      bound = λ t other. (e.costs t).bound other;
      format = λ t. (e.costs t).format;
      fresh = λ t u is. tt;
      settling = λ t. (e.costs t).fetched;
      step = e.step;
      shown = λ un. tt;
      open_after = λ t. tt;
      threw = tt;
      broke = tt;
      failed = tt;
      unhidden = e.ends.cause.dev_faults;
      later = e.alone.dev_faults;
      never_memory = λ none. absurd (e.ends.memory none);
      never_thrown = λ none. tt;
    };
    known = λ t. tt;
    beside = λ t. (Always-last (e.moments t)).beside;
    refused = λ t r is. cc;
    kept = tt;
  }

  -- ---- a device failed, and its unit is thrown out

  module _ {mid new : World C} (eight : Eight p) (u : ℕ) (e : Served reads place stands told c old mid o p (Err (Stop (stops.Device u)))) (desk : new.desk ≡ mid.desk)
      (stand : (told : Bool) (outside : Outside) → StandsBut place stands u told mid.units outside → Stands place stands told new.units outside)
      (world : (outside : Outside) → Eight outside → StandsBut place stands u true mid.units outside → world_of reads new.units outside ≡ thrown_out (world_of reads mid.units outside) u (λ _. lost)) where
    finished-thrown : (IsTrue told → (n : ℕ) → (n ≡ u → ⊥) → IsOpenOrSame n o.now p.now) → FailsAlone o p u → Finished reads told c old o p (Ok (reply.Thrown u))
    finished-thrown opens failed = record {
      alone = e.alone;
      bound = λ t other. (e.costs t).bound other;
      format = λ t. (e.costs t).format;
      fresh = λ t k is says. absurd (cc);
      settling = λ t. (e.costs t).fetched;
      step = e.step;
      shown = λ un quiet. absurd (both-ways (sym (quiet u) ∙ eq-eqb u u refl));
      open_after = λ t n other. opens t n (λ is. other (ap {B = Reply} (λ k. reply.Thrown k) (sym is)));
      threw = thrown-threw u o p e.alone e.ends.cause;
      broke = thrown-broke u o p e.ends.cause;
      failed = thrown-failed u o p failed;
      unhidden = tt;
      later = e.alone.dev_faults;
      never_memory = λ none. refl;
      never_thrown = λ none. absurd (e.ends.device none);
    }

    -- the known world then, by the one before
    known-then : StandsBut place stands u told mid.units p → IsTrue told → stood_for reads new p ≡ thrown_out (stood_for reads mid p) u (λ _. lost)
    known-then but t =
        ap (with_cursors new.desk) (world p eight (subst (λ b. StandsBut place stands u b mid.units p) t but))
        ∙ ap (λ ks. thrown_out (with_cursors ks (world_of reads mid.units p)) u (λ _. lost)) desk

    thrown-fails : Fails reads place stands told c old mid o p u → Applied reads place stands told c old new o p (Ok (reply.Thrown u))
    thrown-fails f = record {
      stands = then;
      obeyed = λ t w means. lift-thrown reads (marks_of old) o c (units_kept laws old.units old.desk o (standing-told begun t)) (may t) p (e.moments t) u f.failed.attached (f.others t) (f.same t)
          (marks_of new) (units_kept laws new.units new.desk p (standing-told then t)) e.alone.cards
          (is t ∙ sym (out-settled (stood_for reads old o) u (known-formed laws old.units old.desk o (standing-told begun t)) (begun.apart t) (begun.settled t))) w means;
      finished = finished-thrown (λ t n other. inr (ap bytes_after (f.others t n other))) f.failed;
      known = λ t quiet. absurd (both-ways (sym (quiet u) ∙ eq-eqb u u refl));
      beside = λ t. (Always-last (e.moments t)).beside;
      refused = λ t r is. cc;
      kept = λ idle. absurd (both-ways idle);
    }
      where
        is : IsTrue told → stood_for reads new p ≡ thrown_out (stood_for reads old o) u (λ _. lost)
        is t = known-then f.stands t ∙ f.world t

        then : Standing reads place stands told new.units new.desk p
        then = thrown-standing (stand told p f.stands) eight (subst DeskFits (sym (desk ∙ f.desk)) begun.desk) (λ t.
            let k = thrown-known laws old.units old.desk o (standing-told begun t) u in
            (thrown_out (stood_for reads old o) u (λ _. lost), is t, k.0, k.1))

    thrown-halfway : FailsHalfway reads place stands told c old mid o p u → Applied reads place stands told c old new o p (Ok (reply.Thrown u))
    thrown-halfway f = record {
      stands = then;
      obeyed = λ t w means. lift-halfway reads (marks_of old) o c (units_kept laws old.units old.desk o (standing-told begun t)) (may t) p (e.moments t) u f.away (f.accepted t)
          (marks_of new) (units_kept laws new.units new.desk p (standing-told then t)) e.alone.cards (is t) w means;
      finished = finished-thrown f.open_after f.failed;
      known = λ t quiet. absurd (both-ways (sym (quiet u) ∙ eq-eqb u u refl));
      beside = λ t. (Always-last (e.moments t)).beside;
      refused = λ t r is. cc;
      kept = λ idle. absurd (both-ways idle);
    }
      where
        is : IsTrue told → stood_for reads new p ≡ settle (thrown_out (changed (stood_for reads old o) c) u (λ _. lost))
        is t = known-then f.stands t ∙ f.world t

        then : Standing reads place stands told new.units new.desk p
        then = thrown-standing (stand told p f.stands) eight (subst DeskFits (sym desk) f.desk) (λ t. (
          settle (thrown_out (changed (stood_for reads old o) c) u (λ _. lost)),
          is t,
          out-apart (changed (stood_for reads old o) c) u (row-apart (stood_for reads old o) c (begun.apart t) (all-false (checks (stood_for reads old o) c) (is-accepted (stood_for reads old o) c (f.accepted t)))),
          settle-settles (thrown_out (changed (stood_for reads old o) c) u (λ _. lost)),
        ))

    pub applied-thrown : Applied reads place stands told c old new o p (Ok (reply.Thrown u))
    applied-thrown = elim e.broke [ inl f ↦ thrown-fails f | inr f ↦ thrown-halfway f ]

-- where the unit whose device failed stands
pub broke-stands : {C : Type 0} {reads : List ℕ → Option Store} {place : C → ℕ} {stands : Bool → C → Outside → Type 0} {told : Bool} {c : Command} {old mid : World C} {o p : Outside} (u : ℕ)
    → Served reads place stands told c old mid o p (Err (Stop (stops.Device u))) → StandsBut place stands u told mid.units p × IsSome (o.card u)
broke-stands u e = elim e.broke [ inl f ↦ (f.stands, f.failed.attached) | inr f ↦ (f.stands, f.failed.attached) ]

-- the same of another fault
pub served-as : {C : Type 0} {reads : List ℕ → Option Store} {place : C → ℕ} {stands : Bool → C → Outside → Type 0} {told : Bool} {c : Command} {old mid : World C} {o p : Outside} {e f : StoreFault}
    → e ≡ f → Served reads place stands told c old mid o p (Err e) → Served reads place stands told c old mid o p (Err f)
served-as {reads = reads} {place} {stands} {told} {c} {old} {mid} {o} {p} is served = subst (λ (x : StoreFault). Served reads place stands told c old mid o p (Err x)) is served
