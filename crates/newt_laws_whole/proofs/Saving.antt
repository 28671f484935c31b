-- Commands that ask nothing of the world, and a save.
use Rattle.std.proofs.Common.{◌≡◌, refl, ap, sym, ◌∙◌, ℕ, [], ◌∷◌, true, false, Bool, not, Option, Some, None, drop}
use Rattle.std.specs.Prelude.{is_none}
use Rattle.newt_base.specs.Refusals.{Checks, first_of}
use Rattle.newt_base.specs.declared.Refusal.{Refusal}
use Rattle.newt_base.specs.declared.Refusal.TheVariants.{Notframe, Size, Full}
use Rattle.newt_spec_store.specs.Store.{Store}
use Rattle.newt_spec_store.specs.Valid.{well_formed}
use Rattle.newt_work.specs.Work.{Copy}
use Rattle.newt_spec_world.specs.World.{World, mounted_store, soup_in, entry_in}
use Rattle.newt_spec_world.specs.Refused.{checks, on_some, full, no_unit, not_mounted, no_soup, no_entry}
use Rattle.newt_spec_world.specs.Answer.{answer, answered}
use Rattle.newt_spec_world.specs.Alias.{Spot}
use Rattle.newt_spec_world.specs.declared.command.Command.{Command}
use Rattle.newt_spec_world.specs.declared.command.Command.TheVariants as command
use Rattle.newt_laws_images.proofs.Chosen.{there-named, soup-good, there-entry}
use Rattle.newt_laws_world.specs.Named.{IsNamed}
use Rattle.newt_laws_world.proofs.Aliases.{named-by}
use Rattle.newt_laws_world.proofs.Units.{soup-has, entry-has, has-mounted}
use Rattle.newt_spec_whole.specs.Whole.{Whole, copy, living, asks, alias_of_copy, change_of}
use Rattle.newt_spec_whole.specs.Refused.{whole_checks, no_copy, entry_gone, entry_changed, no_room}
use Rattle.newt_spec_whole.specs.Answer.{whole_answer, whole_answered, world_after}
use Rattle.newt_laws_whole.specs.Since.{IsDone, Saves}
use Rattle.newt_laws_whole.specs.Runs.{CanBeEntry}
use Rattle.newt_laws_whole.proofs.Drafts.{saves, first-none}

-- ---- commands that ask nothing of it

pub still-world : (h : Whole) (c : Command) → asks h c ≡ None → (whole_answer h c).0.world ≡ h.world
unfolding whole_answer
still-world h c none = go (first_of (whole_checks h c))
  where
    go : (o : Option Refusal) → (whole_answered h c o).0.world ≡ h.world
    go (Some r) = refl
    go None = ap (world_after h.world) none

-- ---- a save

-- a row whose tests all fail
pub row-none : (r : Refusal) (b : Bool) (rest : Checks) → b ≡ false → first_of rest ≡ None → first_of ((r, b) ∷ rest) ≡ None
row-none r b rest h k = ap (λ c. first_of ((r, c) ∷ rest)) h ∙ k

-- the tests of a change of an entry that is there
change-passes : (w : World) (k : Copy) (s : Spot) → IsNamed w (alias_of_copy k) s → ((t : Store) → mounted_store w s.unit ≡ Some t → well_formed t ≡ true) → CanBeEntry k.draft
    → (full w s.unit (change_of k s)).1 ≡ false
    → first_of (checks w (change_of k s)) ≡ None
unfolding checks
change-passes w k s n formed fits room =
    row-none (no_unit w s.unit).0 _ (rest 1) (ap is_none (has-mounted w s.unit n.on n.mounted_there).1.is)
    (row-none (not_mounted w s.unit).0 _ (rest 2) (ap is_none n.mounted_there)
    (row-none (no_soup w s.unit s.soup.name).0 _ (rest 3) (ap is_none soup)
    (row-none (no_entry w s.unit s.soup.name s.entry.uid).0 _ (rest 4) (ap is_none entry)
    (row-none Notframe _ (rest 5) (ap not fits.frame)
    (row-none Size _ (rest 6) fits.small
    (row-none Full _ [] room refl))))))
  where
    rest : ℕ → Checks
    rest i = drop i (checks w (change_of k s))

    ok : well_formed n.on ≡ true
    ok = formed n.on n.mounted_there

    soup : soup_in w s.unit s.soup.name ≡ Some s.soup
    soup = soup-has w s.unit n.on s.soup.name n.mounted_there ∙ there-named n.on s.soup ok n.is_soup

    entry : entry_in w s.unit s.soup.name s.entry.uid ≡ Some s.entry
    entry = entry-has w s.unit s.soup s.soup.name s.entry.uid soup ∙ there-entry s.soup s.entry (soup-good n.on s.soup ok n.is_soup) n.is_entry

-- a save that is done is answered by the world as that change of the entry
pub save-changes : (h : Whole) (n : ℕ) (k : Copy) → ((u : ℕ) (t : Store) → mounted_store h.world u ≡ Some t → well_formed t ≡ true) → CanBeEntry k.draft
    → IsDone h (command.Save n) → copy h n ≡ Some k
    → (s : Spot) × (living h k ≡ Some s) × ((whole_answer h (command.Save n)).0.world ≡ (answer h.world (change_of k s)).0)
unfolding whole_checks answer
save-changes h n k formed fits done here = (v.spot, v.lives, v.after ∙ ap (λ o. (answered h.world c o).0) (sym passes))
  where
    v : Saves h (whole_answer h (command.Save n)).0 k k.draft
    v = saves h n k done here

    c : Command
    c = change_of k v.spot

    rest : (is_none (copy h n) ≡ false) × (first_of (entry_gone h n ∷ entry_changed h n ∷ no_room h n ∷ []) ≡ None)
    rest = first-none (no_copy h n).0 (is_none (copy h n)) (entry_gone h n ∷ entry_changed h n ∷ no_room h n ∷ []) done

    more : ((entry_gone h n).1 ≡ false) × (first_of (entry_changed h n ∷ no_room h n ∷ []) ≡ None)
    more = first-none (entry_gone h n).0 (entry_gone h n).1 (entry_changed h n ∷ no_room h n ∷ []) rest.1

    last : ((entry_changed h n).1 ≡ false) × (first_of (no_room h n ∷ []) ≡ None)
    last = first-none (entry_changed h n).0 (entry_changed h n).1 (no_room h n ∷ []) more.1

    roomy : ((no_room h n).1 ≡ false) × (first_of [] ≡ None)
    roomy = first-none (no_room h n).0 (no_room h n).1 [] last.1

    room : (full h.world v.spot.unit c).1 ≡ false
    room = sym (ap (λ o. on_some o (λ k. on_some (living h k) (λ s. (full h.world s.unit (change_of k s)).1))) here
        ∙ ap (λ o. on_some o (λ s. (full h.world s.unit (change_of k s)).1)) v.lives) ∙ roomy.0

    passes : first_of (checks h.world c) ≡ None
    passes = change-passes h.world k v.spot (named-by h.world (alias_of_copy k) v.spot v.lives) (formed v.spot.unit) fits room
