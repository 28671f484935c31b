-- One line of a piece after another.
use Rattle.std.proofs.Common.{◌≡◌, ◌<◌, ℕ, Bool, true, false, List, [], ◌∷◌, ◌++◌, length, refl, sym, ◌∙◌, ap, append-nil, arith}
use Rattle.newt_spec_script.specs.Script.{Item}
use Rattle.newt_script_session.specs.Lines.{BeginsWith, HasNoEnd, ended_lines, last_line, unended}
use Rattle.newt_script_session.specs.Script.{has_quit, commands_of, script_items}
use Rattle.newt_script_session.specs.Causes.{flow_of}
use Rattle.newt_script_session.specs.declared.halt.Flow.TheVariants.{Go, Quit}
use Rattle.newt_script_session.proofs.Cutting.{cut_at, left_at, cut_none}
use Rattle.newt_script_session.proofs.Replying.{commands_go, commands_none, commands_some, commands_stop, quit_go, quit_none, quit_stop}
use Rattle.newt_script_session.proofs.Spelling.{script_items_are}

pub go_is : (b : Bool) → Go ≡ flow_of b → b ≡ false
go_is true e = cc
go_is false e = refl

pub quit_is : (b : Bool) → Quit ≡ flow_of b → b ≡ true
quit_is true e = refl
quit_is false e = cc

-- the first line of what is left
pub first_cut : (begun rest ended more line : List ℕ) → BeginsWith rest ended more → line ≡ begun ++ ended → ended_lines begun rest ≡ (line ∷ []) ++ ended_lines [] more
first_cut begun rest ended more line b e =
    ap (λ t. ended_lines begun t) b.whole ∙ (cut_at begun ended more b.no_end ∙ ap (λ t. t ∷ ended_lines [] more) (sym e))

pub first_left : (begun rest ended more : List ℕ) → BeginsWith rest ended more → unended begun rest ≡ unended [] more
first_left begun rest ended more b = ap (λ t. unended begun t) b.whole ∙ left_at begun ended more b.no_end

pub quit_line : (begun rest ended more line cleared : List ℕ)
    → BeginsWith rest ended more → line ≡ begun ++ ended → cleared ≡ [] → has_quit (line ∷ []) ≡ false
    → has_quit (ended_lines cleared more) ≡ has_quit (ended_lines begun rest)
quit_line begun rest ended more line cleared b e clear go =
    ap (λ t. has_quit (ended_lines t more)) clear
    ∙ sym (ap has_quit (first_cut begun rest ended more line b e) ∙ quit_go (line ∷ []) (ended_lines [] more) go)

pub left_line : (begun rest ended more cleared : List ℕ) → BeginsWith rest ended more → cleared ≡ [] → unended cleared more ≡ unended begun rest
left_line begun rest ended more cleared b clear = ap (λ t. unended t more) clear ∙ sym (first_left begun rest ended more b)

pub has_last : (begun rest ended more line : List ℕ) → BeginsWith rest ended more → line ≡ begun ++ ended → has_quit (line ∷ []) ≡ true → has_quit (ended_lines begun rest) ≡ true
has_last begun rest ended more line b e stop = ap has_quit (first_cut begun rest ended more line b e) ∙ quit_stop (line ∷ []) (ended_lines [] more) stop

-- the commands of what is left, where a line of it comes next
pub line_then_some : (begun rest ended more line : List ℕ) → BeginsWith rest ended more → line ≡ begun ++ ended
    → (later : List Item) × (commands_of (ended_lines begun rest) ≡ commands_of (line ∷ []) ++ later)
line_then_some begun rest ended more line b e =
    let some = commands_some (line ∷ []) (ended_lines [] more) in
    (some.0, ap commands_of (first_cut begun rest ended more line b e) ∙ some.1)

pub line_then_more : (begun rest ended more line cleared : List ℕ) → BeginsWith rest ended more → line ≡ begun ++ ended → cleared ≡ [] → has_quit (line ∷ []) ≡ false
    → commands_of (ended_lines begun rest) ≡ commands_of (line ∷ []) ++ commands_of (ended_lines cleared more)
line_then_more begun rest ended more line cleared b e clear go =
    ap commands_of (first_cut begun rest ended more line b e)
    ∙ (commands_go (line ∷ []) (ended_lines [] more) go ∙ ap (λ t. commands_of (line ∷ []) ++ commands_of (ended_lines t more)) (sym clear))

pub quit_no_more : (begun rest : List ℕ) → HasNoEnd rest → has_quit (ended_lines begun rest) ≡ false
quit_no_more begun rest none = ap has_quit (cut_none begun rest none) ∙ quit_none

-- the line quits, so nothing of what follows is answered
pub line_then_none : (begun rest ended more line : List ℕ) → BeginsWith rest ended more → line ≡ begun ++ ended → has_quit (line ∷ []) ≡ true
    → commands_of (ended_lines begun rest) ≡ commands_of (line ∷ []) ++ []
line_then_none begun rest ended more line b e stop =
    ap commands_of (first_cut begun rest ended more line b e) ∙ (commands_stop (line ∷ []) (ended_lines [] more) stop ∙ sym (append-nil (commands_of (line ∷ []))))

-- no line ends in what is left
pub no_command : (begun rest : List ℕ) → HasNoEnd rest → commands_of (ended_lines begun rest) ≡ []
no_command begun rest none = ap commands_of (cut_none begun rest none) ∙ commands_none

-- ---- the lines of a whole text

-- the lines of a text that goes on with a line begun before
abbrev pub lines_from : (begun text : List ℕ) → List (List ℕ)
lines_from begun text = ended_lines begun text ++ last_line (unended begun text)

pub last_some : (line : List ℕ) → 0 < length line → last_line line ≡ line ∷ []
unfolding last_line
last_some [] some = absurd (omega arith)
last_some (byte ∷ line) some = refl

pub last_nil : (line : List ℕ) → length line ≡ 0 → commands_of (last_line line) ≡ []
unfolding last_line
last_nil [] none = commands_none
last_nil (byte ∷ line) none = absurd (omega arith)

-- a script that is one text
script_from : (begun text : List ℕ) → begun ≡ [] → script_items text ≡ commands_of (lines_from begun text)
script_from begun text none = sym (script_items_are text) ∙ ap (λ (b : List ℕ). commands_of (lines_from b text)) (sym none)

pub text_then_some : (begun text : List ℕ) → begun ≡ [] → (later : List Item) × (script_items text ≡ commands_of (ended_lines begun text) ++ later)
text_then_some begun text none =
    let some = commands_some (ended_lines begun text) (last_line (unended begun text)) in
    (some.0, script_from begun text none ∙ some.1)

pub text_then_none : (begun text : List ℕ) → begun ≡ [] → has_quit (ended_lines begun text) ≡ true → script_items text ≡ commands_of (ended_lines begun text) ++ []
text_then_none begun text none stop =
    script_from begun text none ∙ (commands_stop (ended_lines begun text) (last_line (unended begun text)) stop ∙ sym (append-nil (commands_of (ended_lines begun text))))

pub text_then_last : (begun text line : List ℕ) → begun ≡ [] → has_quit (ended_lines begun text) ≡ false → line ≡ unended begun text
    → script_items text ≡ commands_of (ended_lines begun text) ++ commands_of (last_line line)
text_then_last begun text line none go is =
    script_from begun text none
    ∙ (commands_go (ended_lines begun text) (last_line (unended begun text)) go ∙ ap (λ (l : List ℕ). commands_of (ended_lines begun text) ++ commands_of (last_line l)) (sym is))
