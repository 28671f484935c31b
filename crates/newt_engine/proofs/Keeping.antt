-- What a refused command leaves, by what the call left that it asked.
use Rattle.std.proofs.Common.{◌≡◌, refl, ap, sym, ◌∙◌, subst, true, false}
use Rattle.std.specs.Prelude.{Result, Ok, Err, IfErr, IfOk}
use Rattle.newt_base.specs.declared.Refusal.{Refusal}
use Rattle.newt_reply.specs.Said.{said}
use Rattle.newt_reply.specs.declared.reply.Reply.{Reply}
use Rattle.newt_spec_graph.proofs.Lists.{both-ways}
use Rattle.newt_spec_world.specs.Reply as plain
use Rattle.newt_spec_world.specs.declared.command.Command.{Command}
use Rattle.newt_store_change.specs.Faults.{IsEnd, IsRefused}
use Rattle.newt_store_change.specs.declared.fault.StoreFault.{StoreFault}
use Rattle.newt_store_change.specs.declared.fault.StoreFault.TheVariants.{Refused, Stop}
use Rattle.newt_engine_units.specs.Kept.{IsIdle, shows_entry}
use Rattle.newt_engine_cursors.specs.Replies.{shown_reply, side_reply}
use Rattle.newt_engine_cursors.specs.declared.show.Shown.{Shown}
use Rattle.newt_engine_cursors.specs.declared.show.Shown.TheVariants.{Nil, Deleted, Entry}
use Rattle.newt_engine_cursors.specs.declared.show.Side.{Side}
use Rattle.newt_engine_cursors.specs.declared.show.Side.TheVariants as at
use Rattle.newt_engine.specs.Handed.{HandsOn, IsHanded}
use Rattle.newt_engine.specs.Kept.{LeavesAll, leaves_all}

-- ---- replies that are no refusals

abbrev Never : plain.Reply → Type 0
Never reply = (r : Refusal) → reply ≡ plain.Reply.refused r → ⊥

-- such a one is of a command that leaves all only where it shows an entry
shows : (c : Command) (reply : plain.Reply) → Never reply → leaves_all c reply ≡ true → shows_entry c ≡ true
shows c (plain.Reply.refused r) never h = absurd (never r refl)
shows c (plain.Reply.thrown u) never h = absurd (both-ways h)
shows c _ never h = h

-- what is shown of a cursor is none
pub shown_never : (x : Shown) (r : Refusal) → shown_reply x ≡ plain.Reply.refused r → ⊥
shown_never Nil r e = cc
shown_never Deleted r e = cc
shown_never (Entry unit e) r k = cc

pub side_never : (x : Side) (r : Refusal) → side_reply x ≡ plain.Reply.refused r → ⊥
side_never at.Begin r e = cc
side_never at.End r e = cc
side_never at.Nil r e = cc

-- ---- a fault

-- an end of the run is no refusal
pub end_idle : (c : Command) (fault : StoreFault) → IsEnd fault → LeavesAll c (Err fault) → ⊥
end_idle c (Refused r) ends idle = absurd ends
end_idle c (Stop stop) ends idle = idle

-- what holds of each fault holds of a refusal
pub err_refused : {T : Type 0} (P : Type 0) (f : Result T StoreFault) → IfErr f (λ fault. P) → IsRefused f → P
err_refused P (Ok x) h is = absurd is
err_refused P (Err fault) h _ = h

-- what is idle and shows no entry was refused
idle_refused : {T : Type 0} (c : Command) (f : Result T StoreFault) → shows_entry c ≡ false → IsIdle c f → IsRefused f
idle_refused c (Ok x) other idle = absurd (both-ways (sym other ∙ idle))
idle_refused c (Err (Refused r)) other idle = tt
idle_refused c (Err (Stop stop)) other idle = absurd idle

-- ---- a call that is handed on

module _ {T : Type 0} {made : T → plain.Reply} {found : Result T StoreFault} {result : Result Reply StoreFault} (on : HandsOn made found result) (never : (x : T) → Never (made x)) where
  pub idle_back : {c d : Command} → c ≡ d → LeavesAll c result → IsIdle d found
  idle_back {c} {d} is idle = go found result on.same (subst (λ (x : Command). LeavesAll x result) is idle)
    where
      fault : (f : StoreFault) → LeavesAll d (Err f) → IsIdle {T = T} d (Err f)
      fault (Refused r) h = tt
      fault (Stop stop) h = absurd h

      go : (f : Result T StoreFault) (r : Result Reply StoreFault) → IsHanded made f r → LeavesAll d r → IsIdle d f
      go (Ok x) (Ok y) s h = shows d (made x) (never x) (sym (ap (leaves_all d) s) ∙ h)
      go (Err f) (Err g) s h = fault f (subst (λ (e : StoreFault). LeavesAll d (Err e)) s h)
      go (Ok x) (Err g) s h = absurd s
      go (Err f) (Ok y) s h = absurd s

  -- a call that shows no entry was refused
  pub refused_back : {c d : Command} → c ≡ d → shows_entry d ≡ false → LeavesAll c result → IsRefused found
  refused_back {d = d} is other idle = idle_refused d found other (idle_back is idle)

-- ---- the cursors are settled after it

pub settled_busy : (c : Command) (reply : Reply) (r : Result Reply StoreFault) → IfOk r (λ it. it ≡ reply) → IfErr r (λ fault. IsEnd fault) → leaves_all c (said reply) ≡ false → LeavesAll c r → ⊥
settled_busy c reply (Ok it) same only busy idle = both-ways (sym busy ∙ ap (λ (k : Reply). leaves_all c (said k)) (sym same) ∙ idle)
settled_busy c reply (Err (Refused r)) same only busy idle = only
settled_busy c reply (Err (Stop stop)) same only busy idle = idle
