-- The commands, told apart by the arms that took others.
use Rattle.std.proofs.Common.{◌≡◌, refl, ap, sym, ◌∙◌, ℕ, List, true, false}
use Rattle.std.proofs.lemmas.Bool.{and_parts}
use Rattle.newt_base.specs.Names.{is_name}
use Rattle.newt_laws_world.specs.Worlds.{has_form, is_plain, sig_fits}
use Rattle.newt_spec_world.specs.declared.command.Command.{Command}
use Rattle.newt_spec_world.specs.declared.command.Command.TheVariants as command
use Rattle.newt_laws_world.specs.Cursors.{uses_cursors}
use Rattle.newt_laws_effects.specs.Tells.{is_mount, is_of_stores}
use Rattle.newt_base.specs.declared.Refusal.{Refusal}
use Rattle.newt_spec_script.specs.Rows.{throws}
use Rattle.newt_spec_world.specs.Reply.{Reply}
use Rattle.newt_engine_units.specs.declared.effects.Effect.{Effect}
use Rattle.newt_engine_commands.specs.Plans.{told_as}
use Rattle.newt_engine.specs.Ends.{takes_memory, uses_device}
use Rattle.newt_engine.specs.Bounds.{is_format}
use Rattle.newt_engine.specs.Groups.{is_shown, on_place}

-- the others are of watches and working copies
pub no_other : (c : Command) → is_shown c ≡ false → uses_device c ≡ false → uses_cursors c ≡ false → ((t : _) → c ≡ command.Time t → ⊥) → (c ≡ command.Quit → ⊥) → ((u : _) → c ≡ command.Unmount u → ⊥) → (c ≡ command.Stores → ⊥)
    → ((u : _) → c ≡ command.Default u → ⊥) → ((u : _) → c ≡ command.Soups u → ⊥) → ((u s : _) → c ≡ command.Indexes u s → ⊥) → ((u s : _) → c ≡ command.Tags u s → ⊥) → ((u s : _) → c ≡ command.Info u s → ⊥) → ((u s i : _) → c ≡ command.Alias u s i → ⊥) → ((g : _) → c ≡ command.Resolve g → ⊥) → is_plain c ≡ false
unfolding uses_cursors is_plain
no_other (command.Time t) g d n time quit unmount stores default soups indexes tags info alias resolve = absurd (time t refl)
no_other command.Quit g d n time quit unmount stores default soups indexes tags info alias resolve = absurd (quit refl)
no_other (command.Unmount u) g d n time quit unmount stores default soups indexes tags info alias resolve = absurd (unmount u refl)
no_other command.Stores g d n time quit unmount stores default soups indexes tags info alias resolve = absurd (stores refl)
no_other (command.Default u) g d n time quit unmount stores default soups indexes tags info alias resolve = absurd (default u refl)
no_other (command.Soups u) g d n time quit unmount stores default soups indexes tags info alias resolve = absurd (soups u refl)
no_other (command.Indexes u s) g d n time quit unmount stores default soups indexes tags info alias resolve = absurd (indexes u s refl)
no_other (command.Tags u s) g d n time quit unmount stores default soups indexes tags info alias resolve = absurd (tags u s refl)
no_other (command.Info u s) g d n time quit unmount stores default soups indexes tags info alias resolve = absurd (info u s refl)
no_other (command.Alias u s i) g d n time quit unmount stores default soups indexes tags info alias resolve = absurd (alias u s i refl)
no_other (command.Resolve x) g d n time quit unmount stores default soups indexes tags info alias resolve = absurd (resolve x refl)
no_other (command.Watch s most) g d n time quit unmount stores default soups indexes tags info alias resolve = refl
no_other (command.Notes m) g d n time quit unmount stores default soups indexes tags info alias resolve = refl
no_other (command.Unwatch m) g d n time quit unmount stores default soups indexes tags info alias resolve = refl
no_other (command.Open u s uid) g d n time quit unmount stores default soups indexes tags info alias resolve = refl
no_other (command.Draft m) g d n time quit unmount stores default soups indexes tags info alias resolve = refl
no_other (command.Edit m path x) g d n time quit unmount stores default soups indexes tags info alias resolve = refl
no_other (command.Save m) g d n time quit unmount stores default soups indexes tags info alias resolve = refl
no_other (command.Revert m) g d n time quit unmount stores default soups indexes tags info alias resolve = refl
no_other (command.Discard m) g d n time quit unmount stores default soups indexes tags info alias resolve = refl
no_other _ g d n time quit unmount stores default soups indexes tags info alias resolve = cc

-- a command that uses no cursor, changes and mounts no store, and is none of these shows no graph and uses no device
pub in_memory : (k : Command) → uses_cursors k ≡ false → is_of_stores k ≡ false → is_mount k ≡ false
    → ((a : _) → k ≡ command.Nsof a → ⊥) → ((a : _) → k ≡ command.Lit a → ⊥) → ((a b c : _) → k ≡ command.Format a b c → ⊥)
    → ((a b c : _) → k ≡ command.Get a b c → ⊥) → ((a b c : _) → k ≡ command.Getx a b c → ⊥) → ((a b c d e f : _) → k ≡ command.Vread a b c d e f → ⊥)
    → (is_shown k ≡ false) × (uses_device k ≡ false)
unfolding uses_cursors is_of_stores
in_memory (command.Nsof a) cursors stores mount nsof lit format get getx vread = absurd (nsof a refl)
in_memory (command.Lit a) cursors stores mount nsof lit format get getx vread = absurd (lit a refl)
in_memory (command.Format a b c) cursors stores mount nsof lit format get getx vread = absurd (format a b c refl)
in_memory (command.Get a b c) cursors stores mount nsof lit format get getx vread = absurd (get a b c refl)
in_memory (command.Getx a b c) cursors stores mount nsof lit format get getx vread = absurd (getx a b c refl)
in_memory (command.Vread a b c d e f) cursors stores mount nsof lit format get getx vread = absurd (vread a b c d e f refl)
in_memory _ cursors stores mount nsof lit format get getx vread = (cc, cc)

-- a command that changes a store takes memory, uses a device and formats none
pub of_stores : (k : Command) → is_of_stores k ≡ true → (takes_memory k ≡ true) × (uses_device k ≡ true) × (is_format k ≡ false)
unfolding is_of_stores
of_stores (command.Soup a b) stores = (refl, refl, refl)
of_stores _ stores = (cc, cc, cc)

-- what it did is told by no refusal, and says of no unit that its device failed
pub told_done : (k : Command) (x : Effect) (r : Refusal) → told_as k x ≡ Reply.refused r → ⊥
told_done (command.Soup a b) x r h = cc
told_done _ x r h = cc

pub told_quiet : (k : Command) (x : Effect) (u : ℕ) → throws u (told_as k x) ≡ false
told_quiet (command.Soup a b) x u = refl
told_quiet _ x u = refl

-- a command on cursors that is none of these is on their places
pub on_places : (k : Command) → uses_cursors k ≡ true → ((a : _) → k ≡ command.Entry a → ⊥) → ((a : _) → k ≡ command.Next a → ⊥) → ((a : _) → k ≡ command.Prev a → ⊥) → ((a : _) → k ≡ command.Reset a → ⊥) → ((a : _) → k ≡ command.End a → ⊥) → ((a b : _) → k ≡ command.Moveby a b → ⊥) → ((a b c : _) → k ≡ command.Goto a b c → ⊥) → ((a b : _) → k ≡ command.Gotokey a b → ⊥) → on_place k ≡ true
unfolding uses_cursors
on_places (command.Entry a) cursors entry next prev reset end moveby goto gotokey = absurd (entry a refl)
on_places (command.Next a) cursors entry next prev reset end moveby goto gotokey = absurd (next a refl)
on_places (command.Prev a) cursors entry next prev reset end moveby goto gotokey = absurd (prev a refl)
on_places (command.Reset a) cursors entry next prev reset end moveby goto gotokey = absurd (reset a refl)
on_places (command.End a) cursors entry next prev reset end moveby goto gotokey = absurd (end a refl)
on_places (command.Moveby a b) cursors entry next prev reset end moveby goto gotokey = absurd (moveby a b refl)
on_places (command.Goto a b c) cursors entry next prev reset end moveby goto gotokey = absurd (goto a b c refl)
on_places (command.Gotokey a b) cursors entry next prev reset end moveby goto gotokey = absurd (gotokey a b refl)
on_places _ cursors entry next prev reset end moveby goto gotokey = cc

-- there are no others of these
pub no_place : (k : Command) → on_place k ≡ true → ((a b c : _) → k ≡ command.Query a b c → ⊥) → ((a b : _) → k ≡ command.QueryAll a b → ⊥) → ((a : _) → k ≡ command.Count a → ⊥) → ((a : _) → k ≡ command.Which a → ⊥) → ((a : _) → k ≡ command.Clone a → ⊥) → ((a : _) → k ≡ command.Close a → ⊥) → ⊥
no_place (command.Query a b c) place query all count which clone close = query a b c refl
no_place (command.QueryAll a b) place query all count which clone close = all a b refl
no_place (command.Count a) place query all count which clone close = count a refl
no_place (command.Which a) place query all count which clone close = which a refl
no_place (command.Clone a) place query all count which clone close = clone a refl
no_place (command.Close a) place query all count which clone close = close a refl
no_place _ place query all count which clone close = cc

-- the words of a command that is of its form
pub format_form : (c : Command) (u : ℕ) (name : List ℕ) (sig : ℕ) → c ≡ command.Format u name sig → has_form c ≡ true → sig_fits sig ≡ true
unfolding has_form
format_form c u name sig is h = (and_parts (is_name name) (sig_fits sig) (ap has_form (sym is) ∙ h)).1
