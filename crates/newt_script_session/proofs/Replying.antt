-- The replies to lines that come one after another.
use Rattle.std.proofs.Common.{◌≡◌, ℕ, true, false, List, [], ◌++◌, refl, sym, ◌∙◌, ap, append-nil}
use Rattle.std.proofs.lemmas.Grind.{flat_map-append}
use Rattle.newt_script.specs.Lines.{line_command}
use Rattle.newt_spec_script.specs.Script.{Item, up_to_quit}
use Rattle.newt_script_session.specs.Script.{given, items_of, has_quit, commands_of}
use Rattle.newt_script_session.proofs.Items.{up_to_go, up_to_stop, up_to_same, among_go, among_stop}
use Rattle.newt_spec_script.specs.Runs.{quits_among}

items_append : (a b : List (List ℕ)) → items_of (a ++ b) ≡ items_of a ++ items_of b
items_append a b = flat_map-append (λ line. given (line_command line)) a b

-- no line
pub quit_none : has_quit [] ≡ false
unfolding has_quit quits_among
quit_none = refl

pub commands_none : commands_of [] ≡ []
unfolding commands_of
commands_none = refl

-- the first lines do not quit
pub quit_go : (a b : List (List ℕ)) → has_quit a ≡ false → has_quit (a ++ b) ≡ has_quit b
unfolding has_quit
quit_go a b h = ap quits_among (items_append a b) ∙ among_go (items_of a) (items_of b) h

pub commands_go : (a b : List (List ℕ)) → has_quit a ≡ false → commands_of (a ++ b) ≡ commands_of a ++ commands_of b
unfolding commands_of has_quit
commands_go a b h = ap up_to_quit (items_append a b)
    ∙ (up_to_go (items_of a) (items_of b) h ∙ ap (λ (items : List Item). items ++ up_to_quit (items_of b)) (sym (up_to_same (items_of a) h)))

-- they do
pub quit_stop : (a b : List (List ℕ)) → has_quit a ≡ true → has_quit (a ++ b) ≡ true
unfolding has_quit
quit_stop a b h = ap quits_among (items_append a b) ∙ among_stop (items_of a) (items_of b) h

pub commands_stop : (a b : List (List ℕ)) → has_quit a ≡ true → commands_of (a ++ b) ≡ commands_of a
unfolding commands_of has_quit
commands_stop a b h = ap up_to_quit (items_append a b) ∙ up_to_stop (items_of a) (items_of b) h

-- whether they do or not, the commands of the first lines come first
pub commands_some : (a b : List (List ℕ)) → (more : List Item) × (commands_of (a ++ b) ≡ commands_of a ++ more)
commands_some a b = elim (has_quit a) as (λ v. has_quit a ≡ v → (more : List Item) × (commands_of (a ++ b) ≡ commands_of a ++ more)) [
  | true ↦ λ h. ([], commands_stop a b h ∙ sym (append-nil (commands_of a)))
  | false ↦ λ h. (commands_of b, commands_go a b h)
] refl
