-- What the world promised, by what its reply is, or the command.
use Rattle.std.proofs.Common.{◌≡◌, subst, ℕ, List, Bool, Option}
use Rattle.std.specs.declared.alloc.AllocError.{AllocError}
use Rattle.std.specs.Prelude.{Ok, Result}
use Rattle.newt_host.specs.Outside.{Outside}
use Rattle.newt_reply.specs.declared.reply.Reply.{Reply}
use Rattle.newt_spec_store.specs.Store.{Store}
use Rattle.newt_spec_world.specs.declared.command.Command.{Command}
use Rattle.newt_engine.specs.Calls.{Applied as Inner}
use Rattle.newt_engine.specs.declared.world.World.{World as Engine}

pub applied-as : {C : Type 0} {reads : List ℕ → Option Store} {place : C → ℕ} {stands : Bool → C → Outside → Type 0} {told : Bool} {c : Command} {old new : Engine C} {o p : Outside} {it is : Reply}
    → it ≡ is → Inner reads place stands told c old new o p (Ok it) → Inner reads place stands told c old new o p (Ok is)
applied-as {C} {reads} {place} {stands} {told} {c} {old} {new} {o} {p} same a = subst (λ (r : Reply). Inner reads place stands told c old new o p (Ok r)) same a

pub applied-of : {C : Type 0} {reads : List ℕ → Option Store} {place : C → ℕ} {stands : Bool → C → Outside → Type 0} {told : Bool} {c d : Command} {old new : Engine C} {o p : Outside} {result : Result Reply AllocError}
    → c ≡ d → Inner reads place stands told c old new o p result → Inner reads place stands told d old new o p result
applied-of {C} {reads} {place} {stands} {told} {old = old} {new} {o} {p} {result} same a = subst (λ (c : Command). Inner reads place stands told c old new o p result) same a
