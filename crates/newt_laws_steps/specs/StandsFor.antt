-- Which worlds a value with its devices stands for, where devices may fail, and what a command
-- makes of each of them. All of it is this project's own.
use Rattle.std.specs.Prelude.{◌≡◌, ◌⊎◌, ℕ, ◌≤◌, Bool, true, false, List, length, map, Option, Some, None, is_some, IsSome, option_map, Result, Ok, Err, if◌then◌else◌}
use Rattle.newt_host.specs.Moments.{Moment, MayLeave, IsDurable, Always, image}
use Rattle.newt_host.specs.Outside.{Outside}
use Rattle.newt_spec_query.specs.Cursor.{Cursor}
use Rattle.newt_spec_store.specs.Store.{Store}
use Rattle.newt_spec_world.specs.Answer.{answer}
use Rattle.newt_spec_world.specs.First.{media_of, unit_numbers}
use Rattle.newt_spec_world.specs.Reply.{Reply}
use Rattle.newt_spec_world.specs.Step.{Step, looks_anew, with_media}
use Rattle.newt_spec_world.specs.World.{World, Device, Media, blank, one, two, lost, is_unsure, device, settle}
use Rattle.newt_spec_world.specs.declared.command.Command.{Command}
use Rattle.newt_laws_steps.specs.Answering.{Answering}
use Rattle.newt_laws_steps.specs.Steps.{IsQuiet}

-- What a value keeps of a world: which units are mounted, of which a sync is due, the default unit,
-- the minute and the cursors. It does not keep what a unit holds that is not mounted: the image
-- says that.
pub record Marks : Type 0 where
  pub mounted : ℕ → Bool
  pub due : ℕ → Bool
  pub default : Option ℕ
  pub minute : ℕ
  pub cursors : List (Option Cursor)

module _ (store_of_image : List ℕ → Option Store) where
  -- What a unit holds, by its image and by what a crash may leave. With no store or one, nothing is
  -- pending, and the image is read so. With one of two, whatever a crash may leave is read as the
  -- one or as the other. Of what is not known nothing is said.
  abbrev pub Holds : Moment → ℕ → Media → Type 0
  Holds now u blank = IsDurable u now × (store_of_image (image u now) ≡ None)
  Holds now u (one s) = IsDurable u now × (store_of_image (image u now) ≡ Some s)
  Holds now u (two a b) = (left : List ℕ) → MayLeave u now left
      → (store_of_image left ≡ Some a) ⊎ (store_of_image left ≡ Some b)
  Holds now u lost = Unit {0}

  -- The device of a unit is as in the world. If it is mounted, it has one store. If it is not known
  -- what it holds, a sync is due.
  pub record IsDeviceOf (marks : Marks) (outside : Outside) (u : ℕ) (d : Device) : Type 0 where
    pub blocks : d.blocks ≡ outside.blocks u
    pub mounted : d.mounted ≡ marks.mounted u
    pub one_store : d.mounted ≡ true → (s : Store) × (d.media ≡ one s)
    pub due : is_unsure d.media ≡ true → marks.due u ≡ true
    pub holds : Holds outside.now u d.media

  -- The value stands for the world. No cursor has another key than its hit. All of the world but
  -- what its units hold is what the value keeps. Each unit that is attached holds what it has in
  -- the world.
  pub record StandsFor (marks : Marks) (outside : Outside) (w : World) : Type 0 where
    pub settled : settle w ≡ w
    pub eight : length w.units ≡ 8
    pub default : w.default ≡ marks.default
    pub minute : w.minute ≡ marks.minute
    pub cursors : w.cursors ≡ marks.cursors
    pub attached : (u : ℕ) → is_some (device w u) ≡ is_some (outside.card u)
    pub devices : (u : ℕ) (d : Device) → device w u ≡ Some d → IsDeviceOf marks outside u d

  -- the device of a unit: nothing is known of it where a sync is due; else it holds what its image
  -- is read as
  abbrev pub known_device : Marks → Outside → ℕ → Option Device
  known_device marks outside u = option_map (λ name. record {
    blocks = outside.blocks u;
    media = if marks.due u then lost else media_of (store_of_image (image u outside.now));
    mounted = marks.mounted u;
  }) (outside.card u)

  -- the world of these devices
  abbrev pub known : Marks → Outside → World
  known marks outside = record {
    units = map (known_device marks outside) unit_numbers;
    default = marks.default;
    minute = marks.minute;
    cursors = marks.cursors;
  }

  -- What a value keeps so that it stands for some world. Where no sync is due, nothing is pending.
  -- A mounted unit is such a one, and is read as a store. Only the units 0 to 7 are attached. No
  -- cursor has another key than its hit.
  pub record IsKept (marks : Marks) (outside : Outside) : Type 0 where
    pub durable : (u : ℕ) → IsSome (outside.card u) → marks.due u ≡ false → IsDurable u outside.now
    pub sure : (u : ℕ) → marks.mounted u ≡ true → marks.due u ≡ false
    pub stores : (u : ℕ) → marks.mounted u ≡ true
        → (s : Store) × (store_of_image (image u outside.now) ≡ Some s)
    pub eight : (u : ℕ) → 8 ≤ u → outside.card u ≡ None
    pub settled : settle (known marks outside) ≡ known marks outside

  -- the world, where a unit that is looked at anew holds what its image is read as
  abbrev pub seen_on : World → Moment → Option ℕ → World
  seen_on w now None = w
  seen_on w now (Some u) = with_media w u (media_of (store_of_image (image u now)))

  -- the world as a command sees it
  abbrev pub seen : World → Moment → Command → World
  seen w now c = seen_on w now (looks_anew w c)

  -- A command turned the world w into the next one, with this reply. That is a step. Where no
  -- device failed, it is the answer in the world as the command saw it at the start.
  pub record Turned (w : World) (c : Command) (old : Moment) (next : World) (reply : Reply) : Type 0 where
    pub step : Step w c next reply
    pub is_plain : IsQuiet reply → answer (seen w old c) c ≡ (next, reply)

  -- A command on a world that was stood for. With a reply, it has made a step to a world that is
  -- stood for. At each moment a crash leaves each unit as in the one or in the other. Where memory
  -- was refused, the other one is that of the answer in the world as the command saw it.
  abbrev pub Obeys : {R E : Type 0} → (R → Reply) → (World → Type 0) → World → Command → Result R E
      → (old new : Moment) → Type 0
  Obeys said stands_for w c (Ok reply) old new = (next : World) × Turned w c old next (said reply)
      × stands_for next × Always (Answering store_of_image w c next old) old new
  Obeys said stands_for w c (Err error) old new =
      Always (Answering store_of_image w c (answer (seen w old c) c).0 old) old new
