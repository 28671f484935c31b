-- What one line gives.
use Rattle.std.proofs.Common.{◌≡◌, ◌≢◌, ℕ, false, List, [], ◌∷◌, Option, Some, None, Result, Ok, Err, refl, sym, ◌∙◌, ap, append-nil}
use Rattle.newt_base.specs.declared.Refusal.{Refusal}
use Rattle.newt_script.specs.Lines.{line_command}
use Rattle.newt_script.specs.declared.fault.LineFault.{LineFault}
use Rattle.newt_script.specs.declared.fault.LineFault.TheVariants.{Refused, Memory}
use Rattle.newt_spec_script.specs.Script.{Item, is_quit, up_to_quit}
use Rattle.newt_spec_world.specs.declared.command.Command.{Command}
use Rattle.newt_script_session.specs.Script.{given, items_of, has_quit, commands_of}
use Rattle.newt_script_session.proofs.Items.{up_to_one, quits_one}
use Rattle.newt_spec_script.specs.Runs.{quits_among}

-- the reading that a call answered is the line's, where memory was not wanting
pub said_nothing : (answered : Result (Option Command) LineFault) (found : Option Command) (line : List ℕ)
    → (answered ≢ Err Memory → answered ≡ line_command line) → answered ≡ Ok found → found ≡ None → Ok None ≡ line_command line
said_nothing answered found line reading is none =
    let e : answered ≡ Ok None = is ∙ ap Ok none in
    let apart : answered ≢ Err Memory = λ no. (cc) in
    sym e ∙ reading apart

pub said_command : (answered : Result (Option Command) LineFault) (found : Option Command) (command : Command) (line : List ℕ)
    → (answered ≢ Err Memory → answered ≡ line_command line) → answered ≡ Ok found → found ≡ Some command → Ok (Some command) ≡ line_command line
said_command answered found command line reading is some =
    let e : answered ≡ Ok (Some command) = is ∙ ap Ok some in
    let apart : answered ≢ Err Memory = λ no. (cc) in
    sym e ∙ reading apart

pub said_refusal : (answered : Result (Option Command) LineFault) (fault : LineFault) (refusal : Refusal) (line : List ℕ)
    → (answered ≢ Err Memory → answered ≡ line_command line) → answered ≡ Err fault → fault ≡ Refused refusal → Err (Refused refusal) ≡ line_command line
said_refusal answered fault refusal line reading is refused =
    let e : answered ≡ Err (Refused refusal) = is ∙ ap Err refused in
    let apart : answered ≢ Err Memory = λ no. (cc) in
    sym e ∙ reading apart

items_one : (line : List ℕ) (reading : Result (Option Command) LineFault) → reading ≡ line_command line → items_of (line ∷ []) ≡ given reading
items_one line reading e = append-nil (given (line_command line)) ∙ ap given (sym e)

item_one : (line : List ℕ) (reading : Result (Option Command) LineFault) (item : Item) → reading ≡ line_command line → given reading ≡ item ∷ [] → commands_of (line ∷ []) ≡ item ∷ []
unfolding commands_of
item_one line reading item e is = ap up_to_quit (items_one line reading e ∙ is) ∙ up_to_one item

-- a line without a command
pub commands_silent : (line : List ℕ) → Ok None ≡ line_command line → commands_of (line ∷ []) ≡ []
unfolding commands_of
commands_silent line e = ap up_to_quit (items_one line (Ok None) e)

pub quit_silent : (line : List ℕ) → Ok None ≡ line_command line → has_quit (line ∷ []) ≡ false
unfolding has_quit quits_among
quit_silent line e = ap quits_among (items_one line (Ok None) e)

-- a command
pub commands_command : (line : List ℕ) (command : Command) → Ok (Some command) ≡ line_command line → commands_of (line ∷ []) ≡ Ok command ∷ []
commands_command line command e = item_one line (Ok (Some command)) (Ok command) e refl

pub quit_command : (line : List ℕ) (command : Command) → Ok (Some command) ≡ line_command line → has_quit (line ∷ []) ≡ is_quit (Ok command)
unfolding has_quit
quit_command line command e = ap quits_among (items_one line (Ok (Some command)) e) ∙ quits_one (Ok command)

-- a refusal
pub commands_refused : (line : List ℕ) (refusal : Refusal) → Err (Refused refusal) ≡ line_command line → commands_of (line ∷ []) ≡ Err refusal ∷ []
commands_refused line refusal e = item_one line (Err (Refused refusal)) (Err refusal) e refl

pub quit_refused : (line : List ℕ) (refusal : Refusal) → Err (Refused refusal) ≡ line_command line → has_quit (line ∷ []) ≡ false
unfolding has_quit
quit_refused line refusal e = ap quits_among (items_one line (Err (Refused refusal)) e) ∙ quits_one (Err refusal)
