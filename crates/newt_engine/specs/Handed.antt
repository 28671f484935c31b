-- How what a call answers becomes a reply.
use Rattle.std.specs.Prelude.{◌≡◌, Result, Ok, Err}
use Rattle.newt_reply.specs.Said.{said}
use Rattle.newt_reply.specs.declared.reply.Reply.{Reply}
use Rattle.newt_spec_world.specs.Reply as plain
use Rattle.newt_store_change.specs.declared.fault.StoreFault.{StoreFault}

-- the reply is made of what was found, and a fault is the one that was found
abbrev pub IsHanded : {T : Type 0} → (T → plain.Reply) → Result T StoreFault → Result Reply StoreFault → Type 0
IsHanded made (Ok value) (Ok reply) = said reply ≡ made value
IsHanded made (Err fault) (Err handed) = handed ≡ fault
IsHanded made _ _ = ⊥

-- What a call has found is handed on, as the reply that is made of it.
pub record HandsOn {T : Type 0} (made : T → plain.Reply) (found : Result T StoreFault) (result : Result Reply StoreFault) : Type 0 where
  pub same : IsHanded made found result
