-- Devices are attached first, and nothing is done to one once a byte of the reply is out.
use Rattle.std.proofs.Common.{◌≡◌, ℕ, true, List, [], None, refl, ◌∙◌}
use Rattle.newt_host.specs.Moments.{Always, Anything, Leaves, Moment, changes, output, taken}
use Rattle.newt_host.specs.Outside.{Outside, PrintsSome}
use Rattle.newt_host.proofs.Extending.{extends-always, extends-trans}
use Rattle.newt_host.proofs.Moments.{Always-last, Always-map}
use Rattle.newt_host_attach.specs.Named.{AreAttached}
use Rattle.newt_script_session.specs.Named.{AttachedFirst}
use Rattle.newt_script_session.proofs.Acting.{still_quiet}
use Rattle.newt_script_session.proofs.Beginning.{attached_first}
use Rattle.newt_script_session.proofs.Counting.{same-refl}
use Rattle.newt_script_session.proofs.Crashing.{prints_changes}
use Rattle.newt_script_session.proofs.Reading.{only_always, only_append, only_map, only_none}
use Rattle.newt_top.specs.Reading.{ActsBeforeReply}
use Rattle.newt_top.specs.Restoring.{AttachedAfter}

-- nothing was put out
acts-quiet : {old now : Moment} → Always (λ m. output m ≡ output old) old now → ActsBeforeReply old now
acts-quiet quiet unit = only_always quiet

-- a text was
acts-printing : (text : List ℕ) {old then now : Moment} → ActsBeforeReply old then → Always (PrintsSome text then) then now → ActsBeforeReply old now
acts-printing text {then = then} acts prints unit = only_append (acts unit) (only_none (Always-map (λ m some. prints_changes text then m some unit) prints))

-- one after another, where nothing was put out
acts-both : {old mid now : Moment} → output mid ≡ output old → ActsBeforeReply old mid → ActsBeforeReply mid now → ActsBeforeReply old now
acts-both same first last unit = only_append (first unit) (only_map (λ m is. is ∙ same) (last unit))

module _ (names : List (List ℕ)) (old mid new : Outside) (blank : (unit : ℕ) → mid.card unit ≡ None → changes unit mid.now ≡ []) (a : AreAttached true names old mid)
    (cards : (unit : ℕ) → new.card unit ≡ mid.card unit) (text : List ℕ) where
  acts-attached : ActsBeforeReply old.now mid.now
  acts-attached = acts-quiet (Always-map (λ m both. both.1) (still_quiet (a.unread refl) (a.quiet refl)))

  -- a device was attached, and a text put out
  pub attached-printing : Always (PrintsSome text mid.now) mid.now new.now → AttachedFirst names old new × ActsBeforeReply old.now new.now
  attached-printing prints = (attached_first names old mid new a blank cards (extends-always prints), acts-printing text acts-attached prints)

  -- in between it was filled
  module _ (done : Outside) (fills : Leaves 0 Anything mid.now done.now) (prints : Always (PrintsSome text done.now) done.now new.now) (unread : taken new.now ≡ taken done.now) where
    then-acts : ActsBeforeReply old.now done.now
    then-acts = acts-both (a.quiet refl) acts-attached (acts-quiet (Always-map (λ m at. at.output) fills))

    pub attached-filling : AttachedAfter names old new
    attached-filling = record {
      read = old;
      all = unread ∙ ((Always-last fills).unread ∙ Always-last (a.unread refl));
      quiet = refl;
      same = same-refl true old;
      attached = attached_first names old mid new a blank cards (extends-trans (extends-always fills) (extends-always prints));
      acts = acts-printing text then-acts prints;
    }
