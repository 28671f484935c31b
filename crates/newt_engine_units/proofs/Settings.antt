-- Where a command begins.
use Rattle.std.proofs.Common.{◌≡◌, refl, ap, sym, ◌∙◌, subst, ℕ, List, Bool, true, false, ◌&&◌, IsTrue, Option, Some, None, option_map, option_and_then, if◌then◌else◌}
use Rattle.std.specs.Prelude.{Result, Err, is_none, is_some}
use Rattle.newt_spec_graph.proofs.Lists.{none-some, some-same, both-ways}
use Rattle.newt_base.specs.Refusals.{first_of}
use Rattle.newt_base.specs.declared.Refusal.{Refusal}
use Rattle.newt_host.specs.Moments.{Moment, Always, image}
use Rattle.newt_host.specs.Outside.{Outside}
use Rattle.newt_spec_store.specs.Store.{Store, Entry, entry_of, entry_at}
use Rattle.newt_spec_world.specs.declared.command.Command.{Command}
use Rattle.newt_spec_world.specs.Reply.{Reply}
use Rattle.newt_spec_world.specs.Step.{unsure_look}
use Rattle.newt_spec_world.specs.World.{World, Device, store_of, unsure_on}
use Rattle.newt_spec_world.specs.First.{media_of}
use Rattle.newt_spec_world.specs.Answer.{answer}
use Rattle.newt_laws_answers.specs.Tests.{unit_checks, soup_checks, entry_checks, both_checks, ready_checks}
use Rattle.newt_laws_answers.specs.There.{OnUnit, IsReady}
use Rattle.newt_laws_answers.proofs.Entries.{no-entry, no-soup}
use Rattle.newt_base.specs.declared.Refusal.TheVariants.{Entry as NoEntry}
use Rattle.newt_store_change.specs.declared.fault.StoreFault.{StoreFault}
use Rattle.newt_store_change.specs.declared.fault.StoreFault.TheVariants.{Refused, Stop}
use Rattle.newt_store_change.specs.Faults.{RefusesBy, IsEnd}
use Rattle.newt_engine_units.specs.Found.{HasSoup, HasEntry, FindsEntry}
use Rattle.newt_engine_units.specs.declared.units.Units.{Units}
use Rattle.newt_engine_units.specs.Answers.{Answers}
use Rattle.newt_engine_units.specs.Breaks.{Meanwhile}
use Rattle.newt_engine_units.specs.Looks.{known_unit, known_soup, known_checks, known_both, known_ready, IsFree}
use Rattle.newt_engine_units.specs.Stands.{card_at, due_in, mounted_in, world_of, Stands, Eight}
use Rattle.newt_engine_units.proofs.Known.{Laws, Plain, Found, on-known, card-known, mounted-known, unit-checks-are, checks-are, both-checks-are, ready-checks-are, ready-known, soup-found}
use Rattle.newt_engine_units.proofs.Turns.{still-moments}
use Rattle.newt_engine_units.proofs.Answering.{refuses}

-- the units stand for a host
pub record Setting {C : Type 0} (reads : List ℕ → Option Store) (place : C → ℕ) (soups : C → Store) (stands : Bool → C → Outside → Type 0) (told : Bool) (units : Units C) (o : Outside) : Type 0 where
  pub laws : Laws reads place soups stands
  pub eight : Eight o
  pub stand : Stands place stands told units o

-- the run ends
pub ends : {T : Type 0} (w v : World) (c : Command) (reply : T → Reply) (fault : StoreFault) → IsEnd fault → (result : Result T StoreFault) → (e : StoreFault) × (result ≡ Err e) × (e ≡ fault) → Answers w v c reply result
ends w v c reply fault h result p = subst (λ r. Answers w v c reply r) (sym (p.1 ∙ ap {B = Result _ StoreFault} (λ e. Err e) p.2)) (go fault h)
  where
    go : (fault : StoreFault) → IsEnd fault → Answers w v c reply (Err fault)
    go (Refused r) h = absurd h
    go (Stop stop) h = tt

-- an error that was handed on
pub is-err : {T : Type 0} (result : Result T StoreFault) (fault : StoreFault) → (e : StoreFault) × (result ≡ Err e) × (e ≡ fault) → result ≡ Err fault
is-err result fault p = p.1 ∙ ap {B = Result _ StoreFault} (λ e. Err e) p.2

module _ {C : Type 0} {reads : List ℕ → Option Store} {place : C → ℕ} {soups : C → Store} {stands : Bool → C → Outside → Type 0} {told : Bool} {units : Units C} {o : Outside}
    (at : Setting reads place soups stands told units o) (t : IsTrue told) where
  pub stand-told : Stands place stands true units o
  stand-told = subst (λ b. Stands place stands b units o) t at.stand

  -- nothing has happened
  pub still : (c : Command) (v : World) (now : Moment) → now ≡ o.now → Always (Meanwhile reads (due_in units.slots.items) (world_of reads units o) c v o.now) o.now now
  still = still-moments at.laws units o at.eight stand-told

  -- a store is mounted
  pub unit-there : (u : ℕ) → mounted_in units.slots.items u ≡ true → (card : C) × Plain at.laws units o at.eight stand-told u card
  unit-there u h = let k = mounted-known at.laws units o at.eight stand-told u h in (k.0, card-known at.laws units o at.eight stand-told u k.0 k.1)

  pub soup-there : (u : ℕ) (name : List ℕ) (sig : ℕ) → known_soup soups units.slots.items u name ≡ Some sig → Found at.laws units o at.eight stand-told u name sig
  soup-there = soup-found at.laws units o at.eight stand-told

  -- there is no unit with a store
  pub unit-refused : {T : Type 0} (u : ℕ) (c : Command) (reply : T → Reply) → ((r : Refusal) → first_of (unit_checks (world_of reads units o) u) ≡ Some r → answer (world_of reads units o) c ≡ (world_of reads units o, Reply.refused r))
      → (fault : StoreFault) → RefusesBy (known_unit units.slots.items u) fault → (result : Result T StoreFault) → (e : StoreFault) × (result ≡ Err e) × (e ≡ fault)
      → Answers (world_of reads units o) (world_of reads units o) c reply result
  unit-refused u c reply refused fault h result p = subst (λ r. Answers (world_of reads units o) (world_of reads units o) c reply r) (sym (is-err result fault p))
      (refuses (world_of reads units o) c reply (unit_checks (world_of reads units o) u) (known_unit units.slots.items u) (unit-checks-are at.laws units o at.eight stand-told u) refused fault h)

  -- there is no such soup
  pub soup-refused : {T : Type 0} (u : ℕ) (name : List ℕ) (c : Command) (reply : T → Reply)
      → ((r : Refusal) → first_of (soup_checks (world_of reads units o) u name) ≡ Some r → answer (world_of reads units o) c ≡ (world_of reads units o, Reply.refused r))
      → (fault : StoreFault) → RefusesBy (known_checks soups units.slots.items u name) fault → (result : Result T StoreFault) → (e : StoreFault) × (result ≡ Err e) × (e ≡ fault)
      → Answers (world_of reads units o) (world_of reads units o) c reply result
  soup-refused u name c reply refused fault h result p = subst (λ r. Answers (world_of reads units o) (world_of reads units o) c reply r) (sym (is-err result fault p))
      (refuses (world_of reads units o) c reply (soup_checks (world_of reads units o) u name) (known_checks soups units.slots.items u name) (checks-are at.laws units o at.eight stand-told u name) refused fault h)

  -- the unit may not be opened or formatted
  pub ready-refused : {T : Type 0} (u : ℕ) (c : Command) (reply : T → Reply)
      → ((r : Refusal) → first_of (ready_checks (world_of reads units o) u) ≡ Some r → answer (world_of reads units o) c ≡ (world_of reads units o, Reply.refused r))
      → (fault : StoreFault) → RefusesBy (known_ready units.slots.items (o.blocks u) u) fault → (result : Result T StoreFault) → (e : StoreFault) × (result ≡ Err e) × (e ≡ fault)
      → Answers (world_of reads units o) (world_of reads units o) c reply result
  ready-refused u c reply refused fault h result p = subst (λ r. Answers (world_of reads units o) (world_of reads units o) c reply r) (sym (is-err result fault p))
      (refuses (world_of reads units o) c reply (ready_checks (world_of reads units o) u) (known_ready units.slots.items (o.blocks u) u) (ready-checks-are at.laws units o at.eight stand-told u) refused fault h)

  -- so nothing is looked at anew
  pub not-looked : (u : ℕ) (fault : StoreFault) → RefusesBy (known_ready units.slots.items (o.blocks u) u) fault → unsure_look (world_of reads units o) u ≡ None
  not-looked u (Refused r) h = ap (λ (c : Option Refusal). if is_none c && unsure_on (world_of reads units o) u then Some u else None)
      (sym (ap first_of (ready-checks-are at.laws units o at.eight stand-told u)) ∙ h)
  not-looked u (Stop stop) h = absurd h

  pub ready-there : (u : ℕ) → IsFree units (o.blocks u) u → due_in units.slots.items u ≡ false → IsReady (world_of reads units o) u (o.blocks u) (media_of (reads (image u o.now)))
  ready-there = ready-known at.laws units o at.eight stand-told

  -- one of two soups is not there
  pub both-refused : {T : Type 0} (u : ℕ) (name : List ℕ) (v : ℕ) (target : List ℕ) (c : Command) (reply : T → Reply)
      → ((r : Refusal) → first_of (both_checks (world_of reads units o) u name v target) ≡ Some r → answer (world_of reads units o) c ≡ (world_of reads units o, Reply.refused r))
      → (fault : StoreFault) → RefusesBy (known_both soups units.slots.items u name v target) fault → (result : Result T StoreFault) → (e : StoreFault) × (result ≡ Err e) × (e ≡ fault)
      → Answers (world_of reads units o) (world_of reads units o) c reply result
  both-refused u name v target c reply refused fault h result p = subst (λ r. Answers (world_of reads units o) (world_of reads units o) c reply r) (sym (is-err result fault p))
      (refuses (world_of reads units o) c reply (both_checks (world_of reads units o) u name v target) (known_both soups units.slots.items u name v target) (both-checks-are at.laws units o at.eight stand-told u name v target) refused fault h)

  -- the card of a store that is mounted
  pub card-reads : (u blocks : ℕ) (a : Store) → OnUnit (world_of reads units o) u blocks a → (card : C) → Some card ≡ card_at units.slots.items u → stands true card o × (reads (image (place card) o.now) ≡ Some a)
  card-reads u blocks a on card is =
      let k = on-known at.laws units o at.eight stand-told u blocks a on in
      let c = stand-told.cards u card (sym is) in
      (c.0, ap (λ n. reads (image n o.now)) c.1 ∙ k.3)

  pub card-none : (u blocks : ℕ) (a : Store) → OnUnit (world_of reads units o) u blocks a → None ≡ card_at units.slots.items u → ⊥
  card-none u blocks a on is = let k = on-known at.laws units o at.eight stand-told u blocks a on in none-some k.0 (is ∙ k.1)

  -- its signature is known
  pub card-sig : (u blocks : ℕ) (a : Store) → OnUnit (world_of reads units o) u blocks a → (card : C) → Some card ≡ card_at units.slots.items u → (sig : ℕ) → sig ≡ (soups card).sig → a.sig ≡ sig
  card-sig u blocks a on card is sig known =
      let k = card-known at.laws units o at.eight stand-told u card (sym is) in
      let d = some-same _ _ (sym on.device_is ∙ k.on.device_is) in
      some-same a.sig k.store.sig (ap (λ (d : Device). option_map (λ (s : Store). s.sig) (store_of d.media)) d) ∙ ap (λ (s : Store). s.sig) k.known ∙ sym known

-- ---- soups and entries that were found

module _ {C : Type 0} {reads : List ℕ → Option Store} {place : C → ℕ} {soups : C → Store} {stands : Bool → C → Outside → Type 0} {told : Bool} {units : Units C} {o : Outside}
    (at : Setting reads place soups stands told units o) (t : IsTrue told) where
  pub has-soup : (u : ℕ) (name : List ℕ) (sig : ℕ) → known_soup soups units.slots.items u name ≡ Some sig → HasSoup (world_of reads units o) u name sig
  has-soup u name sig h = let f = soup-there at t u name sig h in record {
    blocks = o.blocks u;
    store = f.store;
    on = f.on;
    soup = f.soup;
    named = f.named;
    self_named = f.self_named;
    sig_is = f.sig_is;
    by_sig = f.by_sig;
    name_is = f.name_is;
    formed = f.formed;
  }

  pub has-entry : (u : ℕ) (name : List ℕ) (sig uid : ℕ) → (h : HasSoup (world_of reads units o) u name sig) → is_some (entry_at sig uid h.store) ≡ true → HasEntry (world_of reads units o) u name sig uid
  has-entry u name sig uid h is = go (entry_of uid h.soup) refl (sym (ap (λ p. is_some (option_and_then (entry_of uid) p)) h.by_sig) ∙ is)
    where
      go : (e : Option Entry) → entry_of uid h.soup ≡ e → is_some e ≡ true → HasEntry (world_of reads units o) u name sig uid
      go None k x = absurd (both-ways x)
      go (Some e) k x = record { of = h; entry = e; found = k }

  pub entry-missing : (u : ℕ) (name : List ℕ) (sig uid : ℕ) → (h : HasSoup (world_of reads units o) u name sig) → is_some (entry_at sig uid h.store) ≡ false
      → first_of (entry_checks (world_of reads units o) u name uid) ≡ Some NoEntry
  entry-missing u name sig uid h is = no-entry (world_of reads units o) u h.blocks h.store name h.soup uid h.on h.named (go (entry_of uid h.soup) (sym (ap (λ p. is_some (option_and_then (entry_of uid) p)) h.by_sig) ∙ is))
    where
      go : (e : Option Entry) → is_some e ≡ false → e ≡ None
      go None x = refl
      go (Some e) x = absurd (both-ways (sym x))

  -- no soup, so no entry
  pub soup-missing : (u : ℕ) (name : List ℕ) (uid : ℕ) (fault : StoreFault) → RefusesBy (known_checks soups units.slots.items u name) fault
      → (result : Result ℕ StoreFault) → (e : StoreFault) × (result ≡ Err e) × (e ≡ fault) → FindsEntry (world_of reads units o) u name uid result
  soup-missing u name uid fault h result p = subst (λ r. FindsEntry (world_of reads units o) u name uid r) (sym (is-err result fault p)) (go fault h)
    where
      go : (fault : StoreFault) → RefusesBy (known_checks soups units.slots.items u name) fault → RefusesBy (entry_checks (world_of reads units o) u name uid) fault
      go (Refused r) h = no-soup (world_of reads units o) u name uid r (sym (ap first_of (checks-are at.laws units o at.eight (stand-told at t) u name)) ∙ h)
      go (Stop stop) h = absurd h

  -- there is no such entry
  pub entry-refused : {T : Type 0} (u : ℕ) (name : List ℕ) (uid : ℕ) (c : Command) (reply : T → Reply)
      → ((r : Refusal) → first_of (entry_checks (world_of reads units o) u name uid) ≡ Some r → answer (world_of reads units o) c ≡ (world_of reads units o, Reply.refused r))
      → (fault : StoreFault) → RefusesBy (entry_checks (world_of reads units o) u name uid) fault → (result : Result T StoreFault) → (e : StoreFault) × (result ≡ Err e) × (e ≡ fault)
      → Answers (world_of reads units o) (world_of reads units o) c reply result
  entry-refused u name uid c reply refused fault h result p = subst (λ r. Answers (world_of reads units o) (world_of reads units o) c reply r) (sym (is-err result fault p))
      (refuses (world_of reads units o) c reply (entry_checks (world_of reads units o) u name uid) (entry_checks (world_of reads units o) u name uid) refl refused fault h)
