-- What a command costs, by what a call on the units costs.
use Rattle.std.proofs.Common.{arith, ◌≡◌, ap, sym, ◌∙◌, subst, ℕ, ◌+◌, ◌*◌, ◌≤◌, List, true, false, Option, inr}
use Rattle.std.specs.Prelude.{Result}
use Rattle.newt_host.specs.Moments.{bytes_after, image}
use Rattle.newt_host.specs.Outside.{Outside}
use Rattle.newt_pagebook.specs.Book.{IsOpenFor, format_bytes}
use Rattle.newt_reply.specs.declared.reply.Reply.{Reply}
use Rattle.newt_spec_graph.proofs.Lists.{both-ways}
use Rattle.newt_spec_query.specs.Cursor.{Cursor}
use Rattle.newt_spec_store.specs.Cost.{cost}
use Rattle.newt_spec_store.specs.Store.{new_store}
use Rattle.newt_spec_world.specs.declared.command.Command.{Command}
use Rattle.newt_spec_world.specs.declared.command.Command.TheVariants as command
use Rattle.newt_spec_world.specs.Reply as plain
use Rattle.newt_spec_world.specs.Answer.{answer}
use Rattle.newt_spec_world.specs.World.{World, settle}
use Rattle.newt_laws_answers.specs.Bounds.{most_programmed}
use Rattle.newt_laws_answers.specs.Fetched.{meant, means_entries, most_fetched, pages_meant, pages_there}
use Rattle.newt_laws_answers.proofs.Fetched.{meant-beside}
use Rattle.newt_laws_effects.proofs.Most.{cursors-cost-nothing}
use Rattle.newt_laws_world.specs.Cursors.{with_cursors, uses_cursors}
use Rattle.newt_store_change.specs.declared.fault.StoreFault.{StoreFault}
use Rattle.newt_engine_card.specs.Bounds.{Costs, FetchesAtMost, FetchesWithin, FormatsOnce, IsOpenOrSame, LeftAlone, ProgramsAtMost}
use Rattle.newt_store_change.specs.Faults.{GoesOn}
use Rattle.newt_engine_cursors.specs.Unread.{steps_unread, walks_unread}
use Rattle.newt_engine_units.specs.Calls.{CostsOf}
use Rattle.newt_engine_units.proofs.Costs.{alone-bound, alone-once, bound-before, once-before}
use Rattle.newt_engine.specs.Bounds.{CommandCosts, is_format, most_formatted, most_settled}
use Rattle.newt_engine.specs.Handed.{HandsOn}
use Rattle.newt_engine.proofs.Handed.{goes_back}

-- the command costs what the call does
pub costs_on : {T : Type 0} {made : T → plain.Reply} {found : Result T StoreFault} {result : Result Reply StoreFault} {w : World} {c d : Command} {o p : Outside} → HandsOn made found result → c ≡ d
    → is_format d ≡ false → CostsOf w d found o p → CommandCosts w c (most_fetched w c) result o p
costs_on {T} {made} {found} {result} {w} {c} {d} {o} {p} on same none k = record {
  bound = λ _ u. subst (λ x. ProgramsAtMost (most_programmed w x u) u o p) (sym same) (k.bound u);
  format = λ is. absurd (both-ways (sym none ∙ ap is_format (sym same) ∙ is));
  fetched = λ means. subst (λ x. FetchesWithin (most_programmed w x) (most_fetched w x) o p) (sym same) (k.fetched (sym (ap means_entries same) ∙ means));
  open_after = λ h. k.open_after (goes_back on h);
}

-- a format is bounded by itself
pub format_costs : {T : Type 0} {w : World} {c : Command} {fetches : ℕ → ℕ} {unit : ℕ} {name : List ℕ} {sig : ℕ} {result : Result T StoreFault} {o p : Outside} → c ≡ command.Format unit name sig
    → ((u : ℕ) → FormatsOnce (format_bytes (cost (new_store name sig))) 10 u o p) → (GoesOn result → (u : ℕ) → IsOpenOrSame u o.now p.now) → CommandCosts w c fetches result o p
format_costs {o = o} {p} same once leaves = record {
  bound = λ other. absurd (both-ways (sym other ∙ ap is_format same));
  format = λ is u. subst (λ (x : Command). FormatsOnce (most_formatted x) 10 u o p) (sym same) (once u);
  fetched = λ means. absurd (both-ways (sym (ap means_entries same) ∙ means));
  open_after = leaves;
}

-- nothing is programmed, and nothing has happened
pub still_costs : {T : Type 0} {w : World} {c : Command} {fetches : ℕ → ℕ} {result : Result T StoreFault} {o p : Outside} → ((u : ℕ) → LeftAlone u o p)
    → (means_entries c ≡ true → FetchesWithin (most_programmed w c) fetches o p) → CommandCosts w c fetches result o p
still_costs alone few = record { bound = λ _ u. alone-bound _ (alone u); format = λ _ u. alone-once 10 (alone u); fetched = few; open_after = λ _ u. inr (ap bytes_after (alone u).changes) }

-- a command that uses a cursor means no entry
pub means_no_cursor : (c : Command) → uses_cursors c ≡ true → means_entries c ≡ true → ⊥
unfolding uses_cursors
means_no_cursor (command.Get _ _ _) h k = cc
means_no_cursor _ h k = cc

-- and a step of a cursor uses one
pub unread_uses_cursor : (w : World) (c : Command) → uses_cursors c ≡ false → steps_unread w c ≡ true → ⊥
unfolding uses_cursors
unread_uses_cursor w (command.Query _ _ _) h k = cc
unread_uses_cursor w (command.QueryAll _ _) h k = cc
unread_uses_cursor w (command.Entry _) h k = cc
unread_uses_cursor w (command.Next _) h k = cc
unread_uses_cursor w (command.Prev _) h k = cc
unread_uses_cursor w (command.Reset _) h k = cc
unread_uses_cursor w (command.End _) h k = cc
unread_uses_cursor w (command.Moveby _ _) h k = cc
unread_uses_cursor w (command.Gotokey _ _) h k = cc
unread_uses_cursor w (command.Count _) h k = cc
unread_uses_cursor w (command.Which _) h k = cc
unread_uses_cursor w _ h k = cc

-- a command that is known by the cursors is known by the world
pub walks_steps : (w : World) (c : Command) → walks_unread w.cursors c ≡ true → steps_unread w c ≡ true
walks_steps w (command.Query _ _ _) h = cc
walks_steps w (command.QueryAll _ _) h = cc
walks_steps w _ h = h

-- a command that uses no cursor costs the same with cursors, and to settle them programs nothing
pub settled_costs : {S T : Type 0} (ks : List (Option Cursor)) {w : World} {c : Command} {few fetches : ℕ → ℕ} {call : Result S StoreFault} {result : Result T StoreFault} {o m p : Outside} → uses_cursors c ≡ false
    → CommandCosts w c few call o m → (GoesOn result → GoesOn call) → p.now ≡ m.now → ((u : ℕ) → LeftAlone u m p)
    → (means_entries c ≡ true → FetchesWithin (most_programmed w c) fetches o p) → CommandCosts (with_cursors ks w) c fetches result o p
settled_costs ks {w} {c} {few} {fetches} {call} {result} {o} {m} {p} none k goes same alone fetched = record {
  bound = λ other u. subst (λ n. ProgramsAtMost n u o p) (sym (cursors-cost-nothing ks w c u none)) (bound-before (k.bound other u) (alone u));
  format = λ is u. once-before (k.format is u) (alone u);
  fetched = λ means u room. fetched means u (subst (λ n. IsOpenFor n (image u o.now)) (cursors-cost-nothing ks w c u none) room);
  open_after = λ h u. subst (λ now. IsOpenOrSame u o.now now) (sym same) (k.open_after (goes h) u);
}

-- ---- what is fetched with cursors

-- what is meant, before and after
pub meant_with : (ks : List (Option Cursor)) (w : World) (c : Command) (u : ℕ) → answer (with_cursors ks w) c ≡ (settle (with_cursors ks (answer w c).0), (answer w c).1)
    → pages_meant (with_cursors ks w) c u ≡ pages_there w u (meant w c u) + pages_there (answer w c).0 u (meant w c u)
unfolding pages_meant
meant_with ks w c u whole =
    ap {A = List (List ℕ × ℕ)} {B = ℕ} (λ es. pages_there w u es + pages_there (answer (with_cursors ks w) c).0 u es) (meant-beside ks w c u)
    ∙ ap {A = World × plain.Reply} {B = ℕ} (λ a. pages_there w u (meant w c u) + pages_there a.0 u (meant w c u)) whole

-- the command alone
pub alone_few : (ks : List (Option Cursor)) (w : World) (c : Command) (o p : Outside) → answer (with_cursors ks w) c ≡ (settle (with_cursors ks (answer w c).0), (answer w c).1)
    → FetchesWithin (most_programmed w c) (most_fetched w c) o p → FetchesWithin (most_programmed w c) (most_settled (with_cursors ks w) c) o p
alone_few ks w c o p whole few u room = low (p.fetched u) (o.fetched u) _ _ _ (few u room) (meant_with ks w c u whole)
  where
    low : (a b x y z : ℕ) → a ≤ b + 1024 * x → z ≡ x + y → a ≤ b + 1024 * z
    low a b x y z h k = omega (arith, h, k)

-- and with the entry that it reaches
pub settled_few : (ks : List (Option Cursor)) (w : World) (c : Command) (o m p : Outside) (reached : ℕ → ℕ) → answer (with_cursors ks w) c ≡ (settle (with_cursors ks (answer w c).0), (answer w c).1)
    → FetchesWithin (most_programmed w c) (most_fetched w c) o m → FetchesAtMost (λ u. 512 * reached u) m p → ((u : ℕ) → reached u ≤ pages_there (answer w c).0 u (meant w c u))
    → FetchesWithin (most_programmed w c) (most_settled (with_cursors ks w) c) o p
settled_few ks w c o m p reached whole few then within u room = low (p.fetched u) (m.fetched u) (o.fetched u) (reached u) _ _ _ (then u) (few u room) (within u) (meant_with ks w c u whole)
  where
    low : (a b d r x y z : ℕ) → a ≤ b + 512 * r → b ≤ d + 1024 * x → r ≤ y → z ≡ x + y → a ≤ d + 1024 * z
    low a b d r x y z h k l e = omega (arith, h, k, l, e)

-- and where the entry was read meanwhile
pub settled_whole : (ks : List (Option Cursor)) (w : World) (c : Command) (o p : Outside) (reached : ℕ → ℕ) → answer (with_cursors ks w) c ≡ (settle (with_cursors ks (answer w c).0), (answer w c).1)
    → FetchesWithin (most_programmed w c) (λ u. most_fetched w c u + 512 * reached u) o p → ((u : ℕ) → reached u ≤ pages_there (answer w c).0 u (meant w c u))
    → FetchesWithin (most_programmed w c) (most_settled (with_cursors ks w) c) o p
settled_whole ks w c o p reached whole few within u room = low (p.fetched u) (o.fetched u) (reached u) _ _ _ (few u room) (within u) (meant_with ks w c u whole)
  where
    low : (a d r x y z : ℕ) → a ≤ d + (1024 * x + 512 * r) → r ≤ y → z ≡ x + y → a ≤ d + 1024 * z
    low a d r x y z h l e = omega (arith, h, l, e)

-- what a command costs that is no format
pub of_costs : {T : Type 0} {w : World} {c : Command} {few : ℕ → ℕ} {result : Result T StoreFault} {o p : Outside} → is_format c ≡ false → Costs (most_programmed w c) (means_entries c) few result o p → CommandCosts w c few result o p
of_costs none k = record { bound = λ _ u. k.bound u; format = λ is. absurd (both-ways (sym none ∙ is)); fetched = k.fetched; open_after = k.open_after }
