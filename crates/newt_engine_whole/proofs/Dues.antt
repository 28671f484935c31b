-- The notes that are due of a command are its events.
use Rattle.std.proofs.Common.{◌≡◌, refl, ap, sym, ◌∙◌, subst, ℕ, List, [], ◌∷◌, true, Bool, Option, unwrap_or}
use Rattle.newt_host.specs.Outside.{Outside}
use Rattle.newt_notify.specs.declared.note.Kind.{Kind}
use Rattle.newt_notify.specs.declared.note.Kind.TheVariants.{Add}
use Rattle.newt_spec_store.specs.Store.{Store}
use Rattle.newt_spec_whole.specs.Events.{Event, add_event, entry_event, events}
use Rattle.newt_spec_world.specs.Reply.{Reply}
use Rattle.newt_spec_world.specs.World.{World}
use Rattle.newt_spec_world.specs.declared.command.Command.{Command}
use Rattle.newt_spec_world.specs.declared.command.Command.TheVariants as command
use Rattle.newt_engine_units.specs.Looks.{next_uid_on, soup_on}
use Rattle.newt_engine_units.specs.Stands.{Eight, Stands, world_of}
use Rattle.newt_engine_units.specs.declared.units.Units.{Units}
use Rattle.newt_engine_units.proofs.Known.{Laws, soup-is, uid-is}
use Rattle.newt_engine_whole.specs.Told.{HasSig, all_due, event_of, made}
use Rattle.newt_engine_whole.specs.declared.due.Due.TheVariants.{Nothing, Soup, One, Two}
use Rattle.newt_engine_whole.specs.declared.due.Told.{Told}

module _ {C : Type 0} {reads : List ℕ → Option Store} {place : C → ℕ} {soups : C → Store} {stands : Bool → C → Outside → Type 0} (laws : Laws reads place soups stands) (units : Units C) (o : Outside) (eight : Eight o) (stand : Stands place stands true units o) where
  -- the signature and the id are those of the world that is known
  pub entry-due : (kind : Kind) (u : ℕ) (name : List ℕ) (uid : ℕ) (given : List ℕ) (soup : ℕ) → given ≡ name → soup ≡ unwrap_or (soup_on soups units u name) 0
      → event_of (record { name = given; note = record { kind = kind; unit = u; soup = soup; uid = uid } }) ≡ entry_event (world_of reads units o) kind u name uid
  entry-due kind u name uid given soup same is =
      ap {A = List ℕ} {B = Event} (λ n. (n, record { kind = kind; unit = u; soup = soup; uid = uid })) same
      ∙ ap {A = ℕ} {B = Event} (λ n. (name, record { kind = kind; unit = u; soup = n; uid = uid })) (is ∙ ap (λ (n : Option ℕ). unwrap_or n 0) (sym (soup-is laws units o eight stand u name)))

  pub add-due : (u : ℕ) (name : List ℕ) (uid : ℕ) (e : Event) → uid ≡ unwrap_or (next_uid_on soups units u name) 0 → e ≡ entry_event (world_of reads units o) Add u name uid → e ≡ add_event (world_of reads units o) u name
  add-due u name uid e next is = is ∙ ap {A = ℕ} {B = Event} (entry_event (world_of reads units o) Add u name) (next ∙ ap (λ (n : Option ℕ). unwrap_or n 0) (sym (uid-is laws units o eight stand u name)))

module _ (w : World) {c : Command} where
  pub no-due : (d : Command) → c ≡ d → events w d ≡ [] → (r : Reply) → HasSig w c r → all_due Nothing r ≡ events w c
  no-due d is none r sig = sym none ∙ ap (events w) (sym is)

  pub soup-due : (u : ℕ) (s : List ℕ) → c ≡ command.Soup u s → (r : Reply) → HasSig w c r → all_due (Soup u s) r ≡ events w c
  unfolding events
  soup-due u s is r sig = ap (made u s) (subst (λ (d : Command). HasSig w d r) is sig) ∙ ap (events w) (sym is)

  pub one-due : (d : Command) (e : Event) → c ≡ d → events w d ≡ e ∷ [] → (told : Told) → event_of told ≡ e → (r : Reply) → HasSig w c r → all_due (One told) r ≡ events w c
  one-due d e is has told same r sig = ap (λ (x : Event). x ∷ []) same ∙ sym has ∙ ap (events w) (sym is)

  pub two-due : (d : Command) (e f : Event) → c ≡ d → events w d ≡ e ∷ f ∷ [] → (a b : Told) → event_of a ≡ e → event_of b ≡ f → (r : Reply) → HasSig w c r → all_due (Two a b) r ≡ events w c
  two-due d e f is has a b first second r sig = ap (λ (x : Event). x ∷ event_of b ∷ []) first ∙ ap (λ (x : Event). e ∷ x ∷ []) second ∙ sym has ∙ ap (events w) (sym is)

-- the others have none
pub no-events : (w : World) (c : Command) → ((u s : _) → c ≡ command.Soup u s → ⊥) → ((u s : _) → c ≡ command.Drop u s → ⊥) → ((u s g : _) → c ≡ command.Add u s g → ⊥) → ((u s g : _) → c ≡ command.Addx u s g → ⊥)
    → ((s g : _) → c ≡ command.Addu s g → ⊥) → ((u s i v t : _) → c ≡ command.Copy u s i v t → ⊥) → ((u s i path g : _) → c ≡ command.Set u s i path g → ⊥) → ((u s i g : _) → c ≡ command.Change u s i g → ⊥)
    → ((u s i path at bytes : _) → c ≡ command.Vwrite u s i path at bytes → ⊥) → ((u s i : _) → c ≡ command.Remove u s i → ⊥) → ((u s i v t : _) → c ≡ command.Move u s i v t → ⊥) → events w c ≡ []
unfolding events
no-events w (command.Soup u s) soup drop add addx addu copy set change vwrite remove move = absurd (soup u s refl)
no-events w (command.Drop u s) soup drop add addx addu copy set change vwrite remove move = absurd (drop u s refl)
no-events w (command.Add u s g) soup drop add addx addu copy set change vwrite remove move = absurd (add u s g refl)
no-events w (command.Addx u s g) soup drop add addx addu copy set change vwrite remove move = absurd (addx u s g refl)
no-events w (command.Addu s g) soup drop add addx addu copy set change vwrite remove move = absurd (addu s g refl)
no-events w (command.Copy u s i v t) soup drop add addx addu copy set change vwrite remove move = absurd (copy u s i v t refl)
no-events w (command.Set u s i path g) soup drop add addx addu copy set change vwrite remove move = absurd (set u s i path g refl)
no-events w (command.Change u s i g) soup drop add addx addu copy set change vwrite remove move = absurd (change u s i g refl)
no-events w (command.Vwrite u s i path at bytes) soup drop add addx addu copy set change vwrite remove move = absurd (vwrite u s i path at bytes refl)
no-events w (command.Remove u s i) soup drop add addx addu copy set change vwrite remove move = absurd (remove u s i refl)
no-events w (command.Move u s i v t) soup drop add addx addu copy set change vwrite remove move = absurd (move u s i v t refl)
no-events w _ soup drop add addx addu copy set change vwrite remove move = refl
