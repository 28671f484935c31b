-- What a call on one unit makes of the world, and what a crash leaves on the way.
use Rattle.std.proofs.Common.{◌≡◌, ◌&&◌, ◌==◌, refl, ap, sym, ◌∙◌, subst, ℕ, List, [], ◌++◌, ◌⊎◌, inl, inr, Bool, true, false, Option, Some, None, option_map, option_and_then, if◌then◌else◌}
use Rattle.std.specs.Prelude.{Result, Ok, Err, IsSome}
use Rattle.std.proofs.lemmas.Bool.{eqb-true}
use Rattle.newt_base.specs.Refusals.{Checks, first_of}
use Rattle.newt_host.specs.Moments.{Moment, bytes_after, changes, image, output, taken, MayLeave, LeftBy, Always, Leaves, Anything, AtMoment, here}
use Rattle.newt_host.specs.Outside.{Outside, SameCards}
use Rattle.newt_host.proofs.Moments.{Always-map}
use Rattle.newt_spec_graph.proofs.Lists.{some-same, none-some, both-ways, among-left, among-right}
use Rattle.newt_spec_graph.specs.Lists.{Among}
use Rattle.newt_laws_world.proofs.Units.{same-or-not}
use Rattle.newt_spec_store.specs.Store.{Store, new_store}
use Rattle.newt_spec_world.specs.declared.command.Command.{Command}
use Rattle.newt_spec_world.specs.declared.command.Command.TheVariants as command
use Rattle.newt_spec_world.specs.First.{media_of}
use Rattle.newt_spec_world.specs.Step.{formats, is_accepted, is_format_of, looks_at, writes}
use Rattle.newt_spec_world.specs.World.{World, Device, Media, blank, one, two, lost, device, store_of, stores_of, store_on_unit, stores_on, IsBlankOn, change_store, change_media}
use Rattle.newt_laws_steps.specs.Answering.{ReadsOneOf, StaysBlank}
use Rattle.newt_laws_answers.specs.Tests.{formatted}
use Rattle.newt_laws_answers.specs.WorldAt.{device_at, world_at}
use Rattle.newt_laws_answers.proofs.Worlds.{card_device, device-here, device-stays, world-changed, world-alike}
use Rattle.newt_store_change.specs.declared.fault.StoreFault.{StoreFault}
use Rattle.newt_store_change.specs.declared.fault.StoreFault.TheVariants.{Refused, Stop}
use Rattle.newt_engine_card.specs.Cards.{LeavesEither}
use Rattle.newt_store_change.specs.Faults.{Does}
use Rattle.newt_engine_units.specs.declared.units.Units.{Units}
use Rattle.newt_engine_units.specs.Breaks.{HasStoreToFormat, IsLeftAs, Meanwhile}
use Rattle.newt_engine_units.specs.Stands.{due_in, mounted_in, world_of, Stands}
use Rattle.newt_engine_units.proofs.Left.{left-same}
use Rattle.newt_engine_units.proofs.Slots.{Replaced, dues, marks}
use Rattle.newt_engine_units.specs.Stands.{Eight}
use Rattle.newt_engine_units.proofs.Known.{Laws, at-card, at-none}

-- ---- stores on units

abbrev in-device : Option Device → List Store
in-device d = elim d [ None ↦ [] | Some d ↦ stores_of d.media ]

abbrev held-in : Option Device → Option Store
held-in d = option_and_then (λ (d : Device). store_of d.media) d

-- a unit that has a store has it among those that it may have
pub one-store : (w : World) (u : ℕ) (x : Store) → store_on_unit w u ≡ Some x → Among (stores_on w u) x
one-store w u x h = go (device w u) refl
  where
    media : (m : Media) → store_of m ≡ Some x → Among (stores_of m) x
    media blank k = absurd (none-some x k)
    media (one y) k = inl (some-same y x k)
    media (two a b) k = absurd (none-some x k)
    media lost k = absurd (none-some x k)

    go : (d : Option Device) → device w u ≡ d → Among (stores_on w u) x
    go None e = absurd (none-some x (sym (ap held-in e) ∙ h))
    go (Some d) e = subst (λ xs. Among xs x) (sym (ap in-device e)) (media d.media (sym (ap held-in e) ∙ h))

-- a unit that is blank has none
pub blank-none : (w : World) (u : ℕ) (x : Store) → IsBlankOn w u → Among (stores_on w u) x → ⊥
blank-none w u x is h = subst (λ xs. Among xs x) (ap in-device is.1 ∙ ap stores_of is.2) h

not-blank : (w : World) (u : ℕ) (x : Store) → store_on_unit w u ≡ Some x → IsBlankOn w u → ⊥
not-blank w u x h is = blank-none w u x is (one-store w u x h)

-- ---- the world after a call

module _ {C : Type 0} (reads : List ℕ → Option Store) (units later : Units C) (u : ℕ) (card next : C) (o p : Outside) (s : Store)
    (r : Replaced units later u card next) (cards : SameCards o p) (others : (j : ℕ) → (j ≡ u → ⊥) → changes j p.now ≡ changes j o.now)
    (sure : due_in units.slots.items u ≡ false) (was : reads (image u o.now) ≡ Some s) where
  abbrev dues-then : ℕ → Bool
  dues-then = due_in later.slots.items

  abbrev dues-before : ℕ → Bool
  dues-before = due_in units.slots.items

  -- no sync of it is due
  sure-then : dues-then u ≡ false
  sure-then = dues units later u card next r u ∙ sure

  -- the store is another
  pub world-made : (t : Store) (f : Store → Store) → f s ≡ t → reads (image u p.now) ≡ Some t → world_of reads later p ≡ change_store (world_of reads units o) u f
  world-made t f is now =
      world-changed reads dues-before dues-then (mounted_in units.slots.items) (mounted_in later.slots.items) units.default later.default units.minute later.minute o p u
      (λ d. record d { media = change_media f d.media }) cards (λ j h. dues units later u card next r j) (λ j h. marks units later u card next r j) others
      (device-here reads dues-before dues-then (mounted_in units.slots.items) (mounted_in later.slots.items) o p u (λ d. record d { media = change_media f d.media }) cards (λ name h.
      ap (λ b. card_device reads b (o.blocks u) (image u p.now) (mounted_in later.slots.items u)) sure-then
      ∙ ap (λ m. record { blocks = o.blocks u; media = media_of m; mounted = mounted_in later.slots.items u }) now
      ∙ ap {A = Store} {B = Device} (λ x. record { blocks = o.blocks u; media = one x; mounted = mounted_in later.slots.items u }) (sym is)
      ∙ ap (λ m. record { blocks = o.blocks u; media = change_media f (media_of m); mounted = mounted_in later.slots.items u }) (sym was)
      ∙ ap (λ b. record { blocks = o.blocks u; media = change_media f (media_of (reads (image u o.now))); mounted = b }) (marks units later u card next r u)
      ∙ ap (λ b. record { blocks = o.blocks u; media = change_media f (if b then lost else media_of (reads (image u o.now))); mounted = mounted_in units.slots.items u }) (sym sure)))
      ∙ ap {A = Option ℕ} {B = World} (λ d. record (change_store (world_of reads units o) u f) { default = d; minute = later.minute }) r.default
      ∙ ap {A = ℕ} {B = World} (λ m. record (change_store (world_of reads units o) u f) { default = units.default; minute = m }) r.minute

  -- the store is the same
  pub world-kept : reads (image u p.now) ≡ Some s → world_of reads later p ≡ world_of reads units o
  world-kept now = world-alike reads dues-before dues-then (mounted_in units.slots.items) (mounted_in later.slots.items) units.default later.default units.minute later.minute o p
      (λ j. go j (same-or-not j u)) r.default r.minute
    where
      id-map : (d : Option Device) → option_map (λ d. d) d ≡ d
      id-map None = refl
      id-map (Some d) = refl

      same : device_at reads dues-then (mounted_in later.slots.items) p u ≡ device_at reads dues-before (mounted_in units.slots.items) o u
      same = device-here reads dues-before dues-then (mounted_in units.slots.items) (mounted_in later.slots.items) o p u (λ d. d) cards (λ name h.
          ap (λ b. card_device reads b (o.blocks u) (image u p.now) (mounted_in later.slots.items u)) sure-then
          ∙ ap (λ m. record { blocks = o.blocks u; media = media_of m; mounted = mounted_in later.slots.items u }) (now ∙ sym was)
          ∙ ap (λ b. record { blocks = o.blocks u; media = media_of (reads (image u o.now)); mounted = b }) (marks units later u card next r u)
          ∙ ap (λ b. card_device reads b (o.blocks u) (image u o.now) (mounted_in units.slots.items u)) (sym sure)) ∙ id-map _

      go : (j : ℕ) → (j ≡ u) ⊎ (j ≡ u → ⊥) → device_at reads dues-then (mounted_in later.slots.items) p j ≡ device_at reads dues-before (mounted_in units.slots.items) o j
      go j (inl e) = ap (device_at reads dues-then (mounted_in later.slots.items) p) e ∙ same ∙ ap (device_at reads dues-before (mounted_in units.slots.items) o) (sym e)
      go j (inr e) = device-stays reads dues-before dues-then (mounted_in units.slots.items) (mounted_in later.slots.items) o p j cards (dues units later u card next r j) (marks units later u card next r j) (others j e)

  -- what the card does, the world does
  pub does-world : {T : Type 0} (tests : Checks) (good : T → Type 0) (t : Store) (f : Store → Store) (result : Result T StoreFault) → f s ≡ t
      → Does tests good (Some s) (Some t) (reads (image u p.now)) result → Does tests good (world_of reads units o) (change_store (world_of reads units o) u f) (world_of reads later p) result
  does-world tests good t f (Ok x) is d = (d.0, d.1, world-made t f is d.2)
  does-world tests good t f (Err (Refused refusal)) is d = (d.0, world-kept d.1)
  does-world tests good t f (Err (Stop stop)) is d = tt

-- the world where nothing is mounted
pub world-fresh : {C : Type 0} (reads : List ℕ → Option Store) (units : Units C) (o : Outside) → ((u : ℕ) → due_in units.slots.items u ≡ false) → ((u : ℕ) → mounted_in units.slots.items u ≡ false) → units.default ≡ None → units.minute ≡ 0
    → world_of reads units o ≡ world_at reads (λ _. false) (λ _. false) None 0 o
world-fresh reads units o dues marks default minute = world-alike reads (λ _. false) (due_in units.slots.items) (λ _. false) (mounted_in units.slots.items) None units.default 0 units.minute o o
    (λ j. device-stays reads (λ _. false) (due_in units.slots.items) (λ _. false) (mounted_in units.slots.items) o o j (record { devices = λ n. refl; card = λ u. refl; blocks = λ u. refl }) (dues j) (marks j) refl) default minute

-- the world after a format
pub world-formatted : {C : Type 0} (reads : List ℕ → Option Store) (units : Units C) (u : ℕ) (o p : Outside) (name : List ℕ) (sig : ℕ) → SameCards o p → ((j : ℕ) → (j ≡ u → ⊥) → changes j p.now ≡ changes j o.now)
    → due_in units.slots.items u ≡ false → mounted_in units.slots.items u ≡ false → reads (image u p.now) ≡ Some (new_store name sig) → world_of reads units p ≡ formatted (world_of reads units o) u name sig
world-formatted reads units u o p name sig cards others sure free now =
    world-changed reads (due_in units.slots.items) (due_in units.slots.items) (mounted_in units.slots.items) (mounted_in units.slots.items) units.default units.default units.minute units.minute o p u
    (λ d. record d { media = one (new_store name sig); mounted = false }) cards (λ j h. refl) (λ j h. refl) others
    (device-here reads (due_in units.slots.items) (due_in units.slots.items) (mounted_in units.slots.items) (mounted_in units.slots.items) o p u (λ d. record d { media = one (new_store name sig); mounted = false }) cards (λ card h.
    ap (λ b. card_device reads b (o.blocks u) (image u p.now) (mounted_in units.slots.items u)) sure
    ∙ ap (λ m. record { blocks = o.blocks u; media = media_of m; mounted = mounted_in units.slots.items u }) now
    ∙ ap (λ b. record { blocks = o.blocks u; media = one (new_store name sig); mounted = b }) free))

-- where nothing has happened to any device, they stand for the same world
pub world-still : {C : Type 0} (reads : List ℕ → Option Store) (units : Units C) (o p : Outside) → SameCards o p → ((j : ℕ) → changes j p.now ≡ changes j o.now) → world_of reads units p ≡ world_of reads units o
world-still reads units o p cards same = world-alike reads (due_in units.slots.items) (due_in units.slots.items) (mounted_in units.slots.items) (mounted_in units.slots.items) units.default units.default units.minute units.minute o p
    (λ j. device-stays reads (due_in units.slots.items) (due_in units.slots.items) (mounted_in units.slots.items) (mounted_in units.slots.items) o p j cards refl refl (same j)) refl refl

-- ---- moments

-- a format looks at its unit
pub formats-looks : (w : World) (c : Command) (u : ℕ) → formats w c u ≡ true → looks_at c ≡ Some u
formats-looks w (command.Format t name sig) u h = ap {B = Option ℕ} (λ n. Some n) (eqb-true t u (first (t == u) h))
  where
    first : (b : Bool) → b && is_accepted w (command.Format t name sig) ≡ true → b ≡ true
    first true h = refl
    first false h = absurd (both-ways h)
formats-looks w c u h = absurd (both-ways h)

module _ {C : Type 0} {reads : List ℕ → Option Store} {place : C → ℕ} {soups : C → Store} {stands : Bool → C → Outside → Type 0} (l : Laws reads place soups stands)
    (units : Units C) (o : Outside) (e : Eight o) (s : Stands place stands true units o) where
  abbrev w : World
  w = world_of reads units o

  -- a unit that has a store has this one, which its image is read as, and no sync is due
  pub record Keeps (j : ℕ) (x : Store) : Type 0 where
    pub attached : IsSome (o.card j)
    pub sure : due_in units.slots.items j ≡ false
    pub reads_it : reads (image j o.now) ≡ Some x

  pub store-reads : (j : ℕ) (x : Store) → Among (stores_on w j) x → Keeps j x
  store-reads j x h = go (o.card j) refl
    where
      media : (m : Option Store) → Among (stores_of (media_of m)) x → m ≡ Some x
      media None k = absurd k
      media (Some y) (inl k) = ap Some k
      media (Some y) (inr k) = absurd k

      held : (b : Bool) → due_in units.slots.items j ≡ b → Among (stores_of (if b then lost else media_of (reads (image j o.now)))) x → (b ≡ false) × (reads (image j o.now) ≡ Some x)
      held true d k = absurd k
      held false d k = (refl, media (reads (image j o.now)) k)

      go : (c : Option (List ℕ)) → o.card j ≡ c → Keeps j x
      go None k = absurd (subst (λ xs. Among xs x) (ap in-device (at-none l units o e s j k)) h)
      go (Some name) k =
          let is = held (due_in units.slots.items j) refl (subst (λ xs. Among xs x) (ap in-device (at-card l units o e s j name k)) h) in
          record { attached = subst IsSome (sym k) refl; sure = is.0; reads_it = is.1 }

  -- a unit to which nothing happened is left as its store
  pub left-alone : (j : ℕ) (x : Store) (m : Moment) (left : List ℕ) → Among (stores_on w j) x → changes j m ≡ changes j o.now → MayLeave j m left → reads left ≡ Some x
  left-alone j x m left h same may =
      let k = store-reads j x h in
      ap reads (s.durable refl j k.attached k.sure left (subst (λ c. LeftBy c left) same may)) ∙ k.reads_it

  -- and as one of its stores before or after
  still-one : (v : World) (j : ℕ) (x : Store) (m : Moment) (left : List ℕ) → Among (stores_on w j) x → changes j m ≡ changes j o.now → MayLeave j m left
      → ReadsOneOf reads (stores_on w j ++ stores_on v j) left
  still-one v j x m left h same may = (x, among-left (stores_on w j) (stores_on v j) x h, left-alone j x m left h same may)

  -- nothing has happened to any device
  pub unchanged-moment : (c : Command) (v : World) (m : Moment) → taken m ≡ taken o.now → output m ≡ output o.now → ((j : ℕ) → changes j m ≡ changes j o.now) → Meanwhile reads (due_in units.slots.items) w c v o.now m
  unchanged-moment c v m unread quiet same = record {
    answering = record {
      unread = unread;
      quiet = quiet;
      stores = λ j x left h may. still-one v j x m left h (same j) may;
      images = λ j empty stays. ap bytes_after (same j);
      others = λ j left empty stays may. subst (λ c. LeftBy c left) (same j) may;
    };
    unsure = λ j due formed. left-same j o.now m (same j);
    beside = λ j unwritten unformed sure. same j;
  }

  pub still-moments : (c : Command) (v : World) (now : Moment) → now ≡ o.now → Always (Meanwhile reads (due_in units.slots.items) w c v o.now) o.now now
  still-moments c v now same = subst (λ m. Always (Meanwhile reads (due_in units.slots.items) w c v o.now) o.now m) (sym same) (here (unchanged-moment c v o.now refl refl (λ j. refl)))

  -- a call on one unit: what holds of that unit, and nothing has happened to the others
  pub on-unit : (u : ℕ) (P : List ℕ → Type 0) (c : Command) (v : World) (m : Moment) → AtMoment u P o.now m
      → ((x : Store) (left : List ℕ) → Among (stores_on w u) x → P left → ReadsOneOf reads (stores_on w u ++ stores_on v u) left)
      → (IsBlankOn w u → StaysBlank w c v u → ⊥) → (due_in units.slots.items u ≡ true → HasStoreToFormat reads w c u o.now → IsLeftAs u o.now m)
      → (writes w c u ≡ false → is_format_of c u ≡ false → (looks_at c ≡ Some u → due_in units.slots.items u ≡ false) → ⊥)
      → Meanwhile reads (due_in units.slots.items) w c v o.now m
  on-unit u P c v m at stores none its touched = record {
    answering = record {
      unread = at.unread;
      quiet = at.output;
      stores = λ j x left h may. one-of j x left h may (same-or-not j u);
      images = λ j empty stays. ap bytes_after (at.others j (other j empty stays));
      others = λ j left empty stays may. subst (λ c. LeftBy c left) (at.others j (other j empty stays)) may;
    };
    unsure = λ j due formed. left-of j due formed (same-or-not j u);
    beside = λ j unwritten unformed sure. at.others j (λ is. touched (subst (λ k. writes w c k ≡ false) is unwritten) (subst (λ k. is_format_of c k ≡ false) is unformed)
        (subst (λ k. looks_at c ≡ Some k → due_in units.slots.items k ≡ false) is sure));
  }
    where
      left-of : (j : ℕ) → due_in units.slots.items j ≡ true → HasStoreToFormat reads w c j o.now → (j ≡ u) ⊎ (j ≡ u → ⊥) → IsLeftAs j o.now m
      left-of j due formed (inl is) = subst (λ k. IsLeftAs k o.now m) (sym is) (its (ap (due_in units.slots.items) (sym is) ∙ due) (subst (λ k. HasStoreToFormat reads w c k o.now) is formed))
      left-of j due formed (inr is) = left-same j o.now m (at.others j is)

      other : (j : ℕ) → IsBlankOn w j → StaysBlank w c v j → j ≡ u → ⊥
      other j empty stays is = none (subst (IsBlankOn w) is empty) (subst (StaysBlank w c v) is stays)

      one-of : (j : ℕ) (x : Store) (left : List ℕ) → Among (stores_on w j) x → MayLeave j m left → (j ≡ u) ⊎ (j ≡ u → ⊥) → ReadsOneOf reads (stores_on w j ++ stores_on v j) left
      one-of j x left h may (inl is) = subst (λ k. ReadsOneOf reads (stores_on w k ++ stores_on v k) left) (sym is)
          (stores x left (subst (λ k. Among (stores_on w k) x) is h) (at.crash left (subst (λ k. MayLeave k m left) is may)))
      one-of j x left h may (inr is) = still-one v j x m left h (at.others j is) may

  -- a call on one unit that has a store
  pub either-moments : (u : ℕ) (a b : Store) (tests : Checks) (c : Command) (v : World) (now : Moment) → store_on_unit w u ≡ Some a → writes w c u ≡ true → (first_of tests ≡ None → store_on_unit v u ≡ Some b)
      → Leaves u (LeavesEither reads tests a b) o.now now → Always (Meanwhile reads (due_in units.slots.items) w c v o.now) o.now now
  either-moments u a b tests c v now has written makes leaves = Always-map (λ m at. on-unit u (LeavesEither reads tests a b) c v m at either (λ empty stays. not-blank w u a has empty)
      (λ due formed. absurd (both-ways (sym (store-reads u a (one-store w u a has)).sure ∙ due))) (λ unwritten unformed sure. both-ways (sym unwritten ∙ written))) leaves
    where
      either : (x : Store) (left : List ℕ) → Among (stores_on w u) x → LeavesEither reads tests a b left → ReadsOneOf reads (stores_on w u ++ stores_on v u) left
      either x left h (inl k) = (a, among-left (stores_on w u) (stores_on v u) a (one-store w u a has), k)
      either x left h (inr k) = (b, among-right (stores_on w u) (stores_on v u) b (one-store v u b (makes k.0)), k.1)

  -- a call on one unit that has no store, and has one afterwards
  pub anything-moments : (u : ℕ) (b : Store) (c : Command) (v : World) (now : Moment) → IsBlankOn w u → formats w c u ≡ true → store_on_unit v u ≡ Some b → due_in units.slots.items u ≡ false → Leaves u Anything o.now now
      → Always (Meanwhile reads (due_in units.slots.items) w c v o.now) o.now now
  anything-moments u b c v now empty formatting makes sure leaves = Always-map (λ m at. on-unit u Anything c v m at (λ x left h p. absurd (blank-none w u x empty h)) (λ _ stays. formed stays)
      (λ due form. absurd (both-ways (sym sure ∙ due))) (λ unwritten unformed looked. both-ways (sym (ap (λ b. b && is_accepted w c) unformed) ∙ formatting))) leaves
    where
      formed : StaysBlank w c v u → ⊥
      formed (inl k) = both-ways (sym k ∙ formatting)
      formed (inr k) = not-blank v u b makes k
