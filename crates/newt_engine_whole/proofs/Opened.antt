-- An entry is read, and a copy of it is opened.
use Rattle.std.proofs.Common.{◌≡◌, inl, inr, refl, ap, sym, ◌∙◌, subst, ℕ, ◌+◌, ◌≤◌, List, [], ◌∷◌, Bool, true, false, IsTrue, ◌==◌, Option, Some, None, option_and_then, slice_set}
use Rattle.std.specs.declared.alloc.AllocError.{AllocError}
use Rattle.std.specs.Prelude.{IfOk, MatchOption, OnErr, Result, Ok, is_none, slice_get}
use Rattle.std.specs.List.{position}
use Rattle.newt_base.specs.Refusals.{first_of}
use Rattle.newt_base.specs.declared.Refusal.{Refusal}
use Rattle.newt_base.specs.declared.Refusal.TheVariants.{Limit}
use Rattle.newt_graph.specs.Graph.{RawGraph}
use Rattle.newt_host.specs.Moments.{Always, Moment, image}
use Rattle.newt_host.specs.Outside.{Outside}
use Rattle.newt_pagebook.specs.Book.{IsOpenFor}
use Rattle.newt_reply.specs.Said.{said}
use Rattle.newt_reply.specs.declared.reply.Reply.{Reply}
use Rattle.newt_reply.specs.declared.reply.Reply.TheVariants as reply
use Rattle.newt_script_session.specs.Steps.{Stepped}
use Rattle.std.proofs.lemmas.Bool.{eqb-true}
use Rattle.newt_spec_graph.proofs.Lists.{both-ways, none-some}
use Rattle.newt_spec_script.specs.Rows.{throws}
use Rattle.newt_spec_store.specs.Store.{Entry, Soup, Store, entry_of}
use Rattle.newt_spec_whole.specs.Answer.{whole_answer}
use Rattle.newt_spec_whole.specs.Step.{WholeStep, whole_thrown}
use Rattle.newt_spec_whole.specs.Step as wholes
use Rattle.newt_spec_whole.specs.Whole as plain
use Rattle.newt_spec_whole.specs.Whole.{asked_in_turn, asks}
use Rattle.newt_spec_world.specs.Answer.{answer, answered, fields, or_nil}
use Rattle.newt_spec_world.specs.Refused.{checks}
use Rattle.newt_spec_world.specs.Reply as replies
use Rattle.newt_spec_world.specs.World.{World, entry_in, mounted_store, soup_in}
use Rattle.newt_spec_world.specs.declared.command.Command.{Command}
use Rattle.newt_spec_world.specs.declared.command.Command.TheVariants as command
use Rattle.newt_work.specs.Work.{Copy, copy_at, opened}
use Rattle.newt_laws_world.proofs.Settled.{find-passes}
use Rattle.newt_laws_steps.specs.Answering.{Answering}
use Rattle.newt_laws_steps.specs.StandsFor.{Obeys}
use Rattle.newt_laws_steps.specs.Thrown.{FaultsTold, Threw}
use Rattle.newt_laws_whole.specs.Runs.{AllFormed, CanBeEntry, DraftsFit}
use Rattle.newt_laws_whole.proofs.Fits.{entry-in-can, put-all}
use Rattle.newt_laws_whole.proofs.Reading.{GetsOr, entry_tests, gets, open-done, open-full, open-refused, open-thrown}
use Rattle.newt_engine_card.specs.Bounds.{IsOpenOrSame}
use Rattle.newt_engine_cursors.specs.Unread.{steps_unread}
use Rattle.newt_engine.specs.Bounds.{is_format}
use Rattle.newt_engine.specs.Calls.{Applied as Inner, Finished}
use Rattle.newt_engine.specs.Kept.{KeepsWorld}
use Rattle.newt_engine.specs.Standing.{IsStanding, means, stood_for}
use Rattle.newt_engine.specs.declared.world.World.{World as Engine}
use Rattle.newt_engine_whole.specs.Bounds.{ProgramsInTurn, most_put, most_taken}
use Rattle.newt_engine_whole.specs.Calls.{Applied, Ended}
use Rattle.newt_engine_whole.specs.Copies.{PutsCopy}
use Rattle.newt_engine_whole.specs.Ends.{whole_takes_memory, whole_uses_device}
use Rattle.newt_engine_whole.specs.Standing.{AreKept, Means, Standing, known_whole}
use Rattle.newt_engine_whole.specs.declared.whole.Whole.{Whole}
use Rattle.newt_engine_whole.proofs.Leaving.{no-refusal, refusal-leaves, whole-asked, world-as}
use Rattle.newt_engine.proofs.Costing.{walks_steps}
use Rattle.newt_engine.proofs.Forming.{other-unformed}
use Rattle.newt_engine_whole.proofs.Costing.{first-fetches, first-programs}
use Rattle.newt_engine_whole.proofs.Turns.{as-other}

-- ---- how a command ends that asks to read one entry, and nothing more was done

pub reading-ended : {C : Type 0} {reads : List ℕ → Option Store} {told : Bool} {c : Command} {old : Whole C} {o p : Outside} {inner result : Result Reply AllocError} (u uid : ℕ) (s : List ℕ)
    → ((w : World) → steps_unread w c ≡ false) → is_format c ≡ false → whole_takes_memory c ≡ true → whole_uses_device c ≡ true
    → (IsTrue told → (rest : List Command) × (asked_in_turn (known_whole reads old o) c ≡ command.Get u s uid ∷ rest))
    → Finished reads told (command.Get u s uid) old.world o p inner → (IsTrue told → IfOk result (λ it. (x : ℕ) → (it ≡ reply.Thrown x → ⊥) → IsOpenOrSame x o.now p.now))
    → IfOk result (λ it. Threw (said it) o.dev_faults p.dev_faults) → IfOk result (λ it. FaultsTold (said it) o.dev_faults p.dev_faults) → OnErr result ((x : ℕ) → p.dev_faults x ≡ o.dev_faults x)
    → Ended reads told c (asked_in_turn (known_whole reads old o) c) old o p result
reading-ended {C} {reads} {told} {c} {old} {o} {p} {inner} {result} u uid s unread other memory device turn f opens threw failed unhidden =
    let w = stood_for reads old.world o in
    let get = command.Get u s uid in
    record {
      alone = f.alone;
      bound = λ t other x. let k = turn t in subst (λ (ds : List Command). ProgramsInTurn w ds x o p) (sym k.1) (first-programs w get k.0 x (f.bound t refl x));
      format = λ t is. absurd (both-ways (sym other ∙ is));
      fresh = λ t x is. absurd (both-ways (sym (other-unformed c x other) ∙ is));
      fetched = λ t entries x. let k = turn t in
          subst (λ (ds : List Command). IsOpenFor (most_put w ds x) (image x o.now) → p.fetched x ≤ o.fetched x + most_taken w ds x) (sym k.1) (first-fetches w get k.0 x o p (f.settling t refl x));
      step = λ t steps. absurd (both-ways (sym (unread w) ∙ steps));
      shown = λ walks. absurd (both-ways (sym (unread w) ∙ walks_steps w c walks));
      open_after = opens;
      threw = threw;
      failed = failed;
      unhidden = unhidden;
      later = f.later;
      never_memory = λ none. absurd (both-ways (sym none ∙ memory));
      never_thrown = λ none. absurd (both-ways (sym none ∙ device));
    }

pub open-turn : (h : plain.Whole) (u uid : ℕ) (s : List ℕ) → asked_in_turn h (command.Open u s uid) ≡ command.Get u s uid ∷ []
unfolding asks
open-turn h u uid s = refl

-- ---- an alias is known

apart-alias : (r : Refusal) (store soup uid : ℕ) → replies.Reply.refused r ≡ replies.Reply.alias store soup uid → ⊥
apart-alias r store soup uid h = cc

same-refusal : (x r : Refusal) → replies.Reply.refused x ≡ replies.Reply.refused r → Some x ≡ Some r
same-refusal x r h = cc

pub alias-known : (w v : World) (u uid store soup : ℕ) (s : List ℕ) → answer w (command.Alias u s uid) ≡ (v, replies.Reply.alias store soup uid)
    → (t : Store) × (mounted_store w u ≡ Some t) × (t.sig ≡ store) × (p : Soup) × (soup_in w u s ≡ Some p) × (p.sig ≡ soup)
unfolding answer fields
alias-known w v u uid store soup s h = go (first_of (checks w (command.Alias u s uid))) h
  where
    inner : (t : Store) → mounted_store w u ≡ Some t → (o : Option Soup) → soup_in w u s ≡ o → or_nil (λ p. replies.Reply.alias t.sig p.sig uid) o ≡ replies.Reply.alias store soup uid
        → (t : Store) × (mounted_store w u ≡ Some t) × (t.sig ≡ store) × (p : Soup) × (soup_in w u s ≡ Some p) × (p.sig ≡ soup)
    inner t on None named k = cc
    inner t on (Some p) named k = (t, on, cc, p, named, cc)

    outer : (o : Option Store) → mounted_store w u ≡ o → or_nil (λ t. or_nil (λ p. replies.Reply.alias t.sig p.sig uid) (soup_in w u s)) o ≡ replies.Reply.alias store soup uid
        → (t : Store) × (mounted_store w u ≡ Some t) × (t.sig ≡ store) × (p : Soup) × (soup_in w u s ≡ Some p) × (p.sig ≡ soup)
    outer None on k = cc
    outer (Some t) on k = inner t on (soup_in w u s) refl k

    go : (o : Option Refusal) → answered w (command.Alias u s uid) o ≡ (v, replies.Reply.alias store soup uid)
        → (t : Store) × (mounted_store w u ≡ Some t) × (t.sig ≡ store) × (p : Soup) × (soup_in w u s ≡ Some p) × (p.sig ≡ soup)
    go (Some r) k = absurd (apart-alias r store soup uid (ap (λ (a : World × replies.Reply). a.1) k))
    go None k = outer (mounted_store w u) refl (ap (λ (a : World × replies.Reply). a.1) k)

-- or it is refused, as a command that reads the entry is
pub alias-refused : (w v : World) (u uid : ℕ) (s : List ℕ) (r : Refusal) → answer w (command.Alias u s uid) ≡ (v, replies.Reply.refused r) → first_of (entry_tests w u s uid) ≡ Some r
unfolding answer fields checks
alias-refused w v u uid s r h = go (first_of (entry_tests w u s uid)) refl h
  where
    inner : (t : Store) (o : Option Soup) → or_nil (λ p. replies.Reply.alias t.sig p.sig uid) o ≡ replies.Reply.refused r → ⊥
    inner t None k = cc
    inner t (Some p) k = cc

    outer : (o : Option Store) → or_nil (λ t. or_nil (λ p. replies.Reply.alias t.sig p.sig uid) (soup_in w u s)) o ≡ replies.Reply.refused r → ⊥
    outer None k = cc
    outer (Some t) k = inner t (soup_in w u s) k

    go : (o : Option Refusal) → first_of (entry_tests w u s uid) ≡ o → answered w (command.Alias u s uid) o ≡ (v, replies.Reply.refused r) → o ≡ Some r
    go (Some x) e k = same-refusal x r (ap (λ (a : World × replies.Reply). a.1) k)
    go None e k = absurd (outer (mounted_store w u) (ap (λ (a : World × replies.Reply). a.1) k))

-- an entry that is found by its id has it
pub entry-id : (w : World) (u uid : ℕ) (s : List ℕ) (e : Entry) → entry_in w u s uid ≡ Some e → e.uid ≡ uid
entry-id w u uid s e h = go (soup_in w u s) h
  where
    go : (o : Option Soup) → option_and_then (entry_of uid) o ≡ Some e → e.uid ≡ uid
    go None k = absurd (none-some e k)
    go (Some q) k = eqb-true e.uid uid (find-passes (λ (x : Entry). x.uid == uid) q.entries e k).0

-- no other reply shows an entry with its time
pub untimed : (it : Reply) → ((time : _) (graph : _) → it ≡ reply.Timed time graph → ⊥) → (time : ℕ) (graph : RawGraph) → said it ≡ replies.Reply.timed time graph → ⊥
untimed (reply.Timed time graph) other t g says = other time graph refl
untimed _ other t g says = cc

-- ---- a copy is put at a free place

pub puts-at : (old new : List (Option Copy)) (k : Copy) (r : replies.Reply) (n : ℕ) → position is_none old ≡ Some n → new ≡ slice_set old n (Some k) → r ≡ replies.Reply.number n → PutsCopy old new k r
puts-at old new k r n free is says =
    subst (λ (o : Option ℕ). MatchOption o ((r ≡ replies.Reply.refused Limit) × (new ≡ old)) (λ n. (r ≡ replies.Reply.number n) × (new ≡ slice_set old n (Some k)))) (sym free) (says, is)

pub puts-nowhere : (old new : List (Option Copy)) (k : Copy) (r : replies.Reply) → position is_none old ≡ None → new ≡ old → r ≡ replies.Reply.refused Limit → PutsCopy old new k r
puts-nowhere old new k r free is says =
    subst (λ (o : Option ℕ). MatchOption o ((r ≡ replies.Reply.refused Limit) × (new ≡ old)) (λ n. (r ≡ replies.Reply.number n) × (new ≡ slice_set old n (Some k)))) (sym free) (says, is)

-- ---- what is promised

as-open : (reads : List ℕ → Option Store) (u uid : ℕ) (s : List ℕ) (old now : Moment) (w v : World) → Always (Answering reads w (command.Get u s uid) v old) old now → Always (Answering reads w (command.Open u s uid) v old) old now
as-open reads u uid s old now w v a = as-other reads w v (command.Get u s uid) (command.Open u s uid) old now (λ x. refl) a

module _ {C : Type 0} {reads : List ℕ → Option Store} {place : C → ℕ} {stands : Bool → C → Outside → Type 0} {told : Bool} {old : Whole C} {mid : Engine C} {o p : Outside} (u uid : ℕ) (s : List ℕ)
    (begun : Standing reads place stands told old o) where
  -- a refusal is handed on, and so is it that a device failed
  pub open-handed : {it : Reply} → ((time : ℕ) (graph : RawGraph) → said it ≡ replies.Reply.timed time graph → ⊥) → Inner reads place stands told (command.Get u s uid) old.world mid o p (Ok it)
      → Applied reads place stands told (command.Open u s uid) old (record old { world = mid }) o p (Ok it)
  open-handed {it} other a = record {
    stands = record { world = a.stands; watches = begun.watches; drafts = begun.drafts };
    stepped = λ t h m. go h m (a.obeyed t h.world m.world);
    ended = reading-ended u uid s (λ w. refl) refl refl refl (λ t. ([], open-turn (known_whole reads old o) u uid s)) a.finished a.finished.open_after a.finished.threw a.finished.failed tt;
    kept = λ no. whole-asked (world-as refl refl (a.kept (refusal-leaves (command.Get u s uid) (said it) no)));
  }
    where
      go : (h : plain.Whole) → Means reads old o h → Obeys reads {R = Reply} {E = AllocError} said (means reads mid p) h.world (command.Get u s uid) (Ok it) o.now p.now
          → Stepped {E = AllocError} WholeStep reads (command.Open u s uid) (Ok it) h (Means reads (record old { world = mid }) p) o.now p.now o.dev_faults p.dev_faults
      go h m (v, turned, there, moments) = by (gets h.world u s uid v (said it) m.world.settled turned.step)
        where
          by : GetsOr h.world u s uid v (said it) → Stepped {E = AllocError} WholeStep reads (command.Open u s uid) (Ok it) h (Means reads (record old { world = mid }) p) o.now p.now o.dev_faults p.dev_faults
          by (inl (r, first, same, says)) = record {
            next = h;
            reply = said it;
            steps = wholes.plain refl (open-refused h u s uid r first ∙ ap {B = plain.Whole × replies.Reply} (λ q. (h, q)) (sym says));
            threw = a.finished.threw;
            failed = a.finished.failed;
            answered = (refl, record { world = subst (means reads mid p) same there; watches = m.watches; copies = m.copies });
            moments = as-open reads u uid s o.now p.now h.world h.world (subst (λ (w : World). Always (Answering reads h.world (command.Get u s uid) w o.now) o.now p.now) same moments);
          }
          by (inr (inl (e, first, entry, same, says))) = absurd (other e.time e.graph says)
          by (inr (inr (x, next, says))) = record {
            next = whole_thrown h (command.Get u s uid) x;
            reply = said it;
            steps = subst (WholeStep h (command.Open u s uid) (whole_thrown h (command.Get u s uid) x)) (sym says) (open-thrown h u s uid x);
            threw = a.finished.threw;
            failed = a.finished.failed;
            answered = (refl, record { world = subst (means reads mid p) next there; watches = m.watches; copies = m.copies });
            moments = as-open reads u uid s o.now p.now h.world (whole_thrown h (command.Get u s uid) x).world (subst (λ (w : World). Always (Answering reads h.world (command.Get u s uid) w o.now) o.now p.now) next moments);
          }

  -- the entry is there
  module _ {time store soup : ℕ} {graph : RawGraph} (a : Inner reads place stands told (command.Get u s uid) old.world mid o p (Ok (reply.Timed time graph)))
      (known : IsTrue told → (h : plain.Whole) → Means reads old o h → (t : Store) × (mounted_store h.world u ≡ Some t) × (t.sig ≡ store) × (q : Soup) × (soup_in h.world u s ≡ Some q) × (q.sig ≡ soup)) where
    -- it has this time and graph
    open-found : IsTrue told → (h : plain.Whole) → Means reads old o h → (e : Entry) × (first_of (entry_tests h.world u s uid) ≡ None) × (entry_in h.world u s uid ≡ Some e) × (e.time ≡ time) × (e.graph ≡ graph)
        × means reads mid p h.world × Always (Answering reads h.world (command.Open u s uid) h.world o.now) o.now p.now
    open-found t h m = go (a.obeyed t h.world m.world)
      where
        go : Obeys reads {R = Reply} {E = AllocError} said (means reads mid p) h.world (command.Get u s uid) (Ok (reply.Timed time graph)) o.now p.now
            → (e : Entry) × (first_of (entry_tests h.world u s uid) ≡ None) × (entry_in h.world u s uid ≡ Some e) × (e.time ≡ time) × (e.graph ≡ graph)
            × means reads mid p h.world × Always (Answering reads h.world (command.Open u s uid) h.world o.now) o.now p.now
        go (v, turned, there, moments) = by (gets h.world u s uid v (replies.Reply.timed time graph) m.world.settled turned.step)
          where
            by : GetsOr h.world u s uid v (replies.Reply.timed time graph) → (e : Entry) × (first_of (entry_tests h.world u s uid) ≡ None) × (entry_in h.world u s uid ≡ Some e) × (e.time ≡ time) × (e.graph ≡ graph)
                × means reads mid p h.world × Always (Answering reads h.world (command.Open u s uid) h.world o.now) o.now p.now
            by (inl (r, first, same, says)) = cc
            by (inr (inl (e, first, entry, same, says))) = (
              e,
              first,
              entry,
              cc,
              cc,
              subst (means reads mid p) same there,
              as-open reads u uid s o.now p.now h.world h.world (subst (λ (w : World). Always (Answering reads h.world (command.Get u s uid) w o.now) o.now p.now) same moments),
            )
            by (inr (inr (x, next, says))) = cc

    -- the ids are those that were asked
    module _ (new : Whole C) (world : new.world ≡ mid) (watches : new.watches ≡ old.watches) (it : Reply) (put : PutsCopy old.works new.works (opened store soup uid time graph) (said it)) where
      now-means : (h : plain.Whole) (copies : List (Option Copy)) → Means reads old o h → means reads mid p h.world → new.works ≡ copies → Means reads new p (record h { copies = copies })
      now-means h copies m there is = record {
        world = subst (λ (e : Engine C). means reads e p h.world) (sym world) there;
        watches = watches ∙ m.watches;
        copies = is;
      }

      -- what is replied says of no unit that its device failed
      answered-by : (h : plain.Whole) (copies : List (Option Copy)) (q : replies.Reply) → said it ≡ q → ((x : ℕ) → throws x q ≡ false) → whole_answer h (command.Open u s uid) ≡ (record h { copies = copies }, q)
          → Always (Answering reads h.world (command.Open u s uid) h.world o.now) o.now p.now → Means reads new p (record h { copies = copies })
          → Stepped {E = AllocError} WholeStep reads (command.Open u s uid) (Ok it) h (Means reads new p) o.now p.now o.dev_faults p.dev_faults
      answered-by h copies q says none is moments there = record {
        next = record h { copies = copies };
        reply = said it;
        steps = wholes.plain refl (is ∙ ap {B = plain.Whole × replies.Reply} (λ r. (record h { copies = copies }, r)) (sym says));
        threw = record { later = a.finished.later; rose = λ x k. absurd (both-ways (sym (ap (throws x) says ∙ none x) ∙ k)) };
        failed = λ x k. a.finished.failed x refl;
        answered = (refl, there);
        moments = moments;
      }

      ended : ((x : ℕ) → throws x (said it) ≡ false) → Ended reads told (command.Open u s uid) (asked_in_turn (known_whole reads old o) (command.Open u s uid)) old o p (Ok it)
      ended none = reading-ended u uid s (λ w. refl) refl refl refl (λ t. ([], open-turn (known_whole reads old o) u uid s)) a.finished (λ t x other. a.finished.open_after t x (λ k. cc))
          (record { later = a.finished.later; rose = λ x k. absurd (both-ways (sym (none x) ∙ k)) }) (λ x k. a.finished.failed x refl) tt

      pub open-put : (IsTrue told → (h : plain.Whole) × Means reads old o h × AllFormed h.world) → Applied reads place stands told (command.Open u s uid) old new o p (Ok it)
      open-put has = go (position is_none old.works) refl put
        where
          stands-so : (IsTrue told → DraftsFit new.works) → Standing reads place stands told new p
          stands-so fit = record { world = subst (λ (e : Engine C). IsStanding reads place stands told e p) (sym world) a.stands; watches = subst AreKept (sym watches) begun.watches; drafts = fit }

          can : IsTrue told → CanBeEntry graph
          can t =
              let w = has t in
              let f = open-found t w.0 w.1 in
              subst CanBeEntry f.4 (entry-in-can w.0.world u s uid f.0 w.2 f.2)

          go : (free : Option ℕ) → position is_none old.works ≡ free
              → MatchOption free ((said it ≡ replies.Reply.refused Limit) × (new.works ≡ old.works)) (λ n. (said it ≡ replies.Reply.number n) × (new.works ≡ slice_set old.works n (Some (opened store soup uid time graph))))
              → Applied reads place stands told (command.Open u s uid) old new o p (Ok it)
          go None free (says, works) = record {
            stands = stands-so (λ t. subst DraftsFit (sym works) (begun.drafts t));
            stepped = λ t h m.
                let f = open-found t h m in
                answered-by h h.copies (replies.Reply.refused Limit) says (λ x. refl) (open-full h u s uid f.1 (ap (position is_none) (sym m.copies) ∙ free)) f.6 (now-means h h.copies m f.5 (works ∙ m.copies));
            ended = ended (λ x. ap (throws x) says);
            kept = λ no. record {
              world = subst (λ (e : Engine C). KeepsWorld (command.Open u s uid) old.world e) (sym world) (world-as refl refl (a.kept refl));
              watches = watches;
              works = works;
            };
          }
          go (Some n) free (says, works) = record {
            stands = stands-so (λ t j k at. put-all (λ j. CanBeEntry j.draft) old.works (begun.drafts t) (Some n) (opened store soup uid time graph) (can t) j k
                (ap (copy_at j) (sym works) ∙ at));
            stepped = λ t h m.
                let f = open-found t h m in
                let k = known t h m in
                let same : opened k.0.sig k.3.sig f.0.uid f.0.time f.0.graph ≡ opened store soup uid time graph = λ i. opened (k.2 i) (k.5 i) (entry-id h.world u uid s f.0 f.2 i) (f.3 i) (f.4 i) in
                answered-by h (slice_set h.copies n (Some (opened k.0.sig k.3.sig f.0.uid f.0.time f.0.graph))) (replies.Reply.number n) says (λ x. refl)
                (open-done h u s uid n k.0 k.3 f.0 m.world.settled f.1 (ap (position is_none) (sym m.copies) ∙ free) k.1 k.4 f.2) f.6
                (now-means h (slice_set h.copies n (Some (opened k.0.sig k.3.sig f.0.uid f.0.time f.0.graph))) m f.5
                (works ∙ ap (λ (ks : List (Option Copy)). slice_set ks n (Some (opened store soup uid time graph))) m.copies ∙ ap (λ (c : Copy). slice_set h.copies n (Some c)) (sym same)));
            ended = ended (λ x. ap (throws x) says);
            kept = λ no. no-refusal says refl no;
          }
