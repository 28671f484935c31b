-- Lines that say something, by their first word.
use Rattle.std.proofs.Common.{◌≡◌, ◌≢◌, ℕ, Bool, true, false, not, ◌&&◌, nat_lt, ◌<◌, ◌≤◌, List, [], ◌∷◌, length, option_map, Option, Some, None, Result, Ok, Err, refl, sym, ◌∙◌, ap}
use Rattle.std.proofs.lemmas.Bool.{lt-ltb, le-ltb}
use Rattle.std.proofs.lemmas.Slice.Eq.{bytes_eq-Decides}
use Rattle.std.specs.List.{list_all, list_any, find}
use Rattle.std.specs.Prelude.{bytes_eq}
use Rattle.newt_base.specs.declared.Refusal.TheVariants as refusals
use Rattle.newt_spec_world.specs.declared.command.Command.{Command}
use Rattle.newt_spec_script.specs.Line.{Row, rows, read_row, row_of, if_said, within_length, first_word, parsed, says_nothing}
use Rattle.newt_spec_script.specs.Script.{Item, item_of, without_return}
use Rattle.newt_script.specs.Graphs.{readers}
use Rattle.newt_script.specs.Rows.{Reading, as_read, reading, row_reading}
use Rattle.newt_script.specs.Lines.{line_answer, line_command, spoken, takes_memory}
use Rattle.newt_script.specs.Verbs.{word_of, is_memory_word, soup_word, entry_word, transfer_word}
use Rattle.newt_script.specs.declared.fault.LineFault.{LineFault}
use Rattle.newt_script.specs.declared.fault.LineFault.TheVariants.{Refused, Memory}
use Rattle.newt_script.specs.declared.verbs.TheConstants.{VERBS}
use Rattle.newt_script.specs.declared.verbs.Verb.{Verb}
use Rattle.newt_script.specs.declared.verbs.SoupVerb.{SoupVerb}
use Rattle.newt_script.specs.declared.verbs.SoupVerb.TheVariants as soup_verb
use Rattle.newt_script.specs.declared.verbs.EntryVerb.{EntryVerb}
use Rattle.newt_script.specs.declared.verbs.EntryVerb.TheVariants as entry_verb
use Rattle.newt_script.specs.declared.verbs.TransferVerb.{TransferVerb}
use Rattle.newt_script.specs.declared.verbs.TransferVerb.TheVariants as transfer_verb

-- by its length
spoken_by : (line : List ℕ) (long : Bool) → nat_lt 140_000 (length line) ≡ long → spoken line ≡ reading (within_length long line)
unfolding spoken
spoken_by line long is = ap (λ (b : Bool). reading (within_length b line)) is

pub too_long : (line : List ℕ) → 140_000 < length line → Err (Refused refusals.Longline) ≡ spoken line
too_long line long = sym (spoken_by line true (lt-ltb 140_000 (length line) long))

row_of_word : (word rest : List ℕ) → reading (row_of word rest) ≡ row_reading word rest
unfolding row_reading
row_of_word word rest = refl

-- the word of a command
pub says_verb : (line : List ℕ) (v : Verb) (r : Reading) → length line ≤ 140_000 → (first_word line).0 ≡ word_of v
    → r ≡ row_reading (word_of v) (first_word line).1 → r ≡ spoken line
says_verb line v r short word read =
    read ∙ sym (spoken_by line false (le-ltb 140_000 (length line) short)
    ∙ (row_of_word (first_word line).0 (first_word line).1 ∙ ap (λ w. row_reading w (first_word line).1) word))

-- ---- out of memory

-- is never what a row reads
pub never_memory : (word rest : List ℕ) → row_reading word rest ≢ Err Memory
unfolding row_reading
never_memory word rest = go (item_of readers (row_of word rest))
  where
    go : (item : Item) → as_read item ≢ Err Memory
    go (Ok command) = λ e. cc
    go (Err refusal) = λ e. cc

-- nor does the row of a line's verb take memory, where the line takes none
pub no_memory_word : (line : List ℕ) (v : Verb) → length line ≤ 140_000 → (first_word line).0 ≡ word_of v → takes_memory line ≡ false → is_memory_word (word_of v) ≡ false
unfolding takes_memory
no_memory_word line v short word none =
    ap is_memory_word (sym word) ∙ (ap (λ (b : Bool). not b && is_memory_word (first_word line).0) (sym (le-ltb 140_000 (length line) short)) ∙ none)

-- the words of all verbs in a group
pub soup_takes : (v : SoupVerb) → is_memory_word (soup_word v) ≡ true
soup_takes soup_verb.Soup = refl
soup_takes soup_verb.Drop = refl
soup_takes soup_verb.Indexes = refl

pub entry_takes : (v : EntryVerb) → is_memory_word (entry_word v) ≡ true
entry_takes entry_verb.Get = refl
entry_takes entry_verb.Getx = refl
entry_takes entry_verb.Remove = refl
entry_takes entry_verb.Alias = refl
entry_takes entry_verb.Open = refl

pub transfer_takes : (v : TransferVerb) → is_memory_word (transfer_word v) ≡ true
transfer_takes transfer_verb.Copy = refl
transfer_takes transfer_verb.Move = refl

-- ---- words that are found, and words that no row has

both : (a b : Bool) → (a && b) ≡ true → (a ≡ true) × (b ≡ true)
both true b is = (refl, is)
both false b is = cc

found_in : (w : List ℕ) (vs : List Verb) (v : Verb) → find (λ (u : Verb). bytes_eq (word_of u) w) vs ≡ Some v → word_of v ≡ w
found_in w [] v is = absurd (cc)
found_in w (u ∷ vs) v is = go (λ k. found_in w vs v k) (bytes_eq (word_of u) w) refl
  where
    go : (find (λ (q : Verb). bytes_eq (word_of q) w) vs ≡ Some v → word_of v ≡ w) → (b : Bool) → bytes_eq (word_of u) w ≡ b → word_of v ≡ w
    go later true e =
        let here : Some u ≡ Some v = rw e at is in
        let same : u ≡ v = cc in
        ap word_of (sym same) ∙ (bytes_eq-Decides (word_of u) w).0 e
    go later false e = later (rw e at is)

-- the word that a verb was found by
pub found : (w : List ℕ) (v : Verb) → Some v ≡ find (λ (u : Verb). bytes_eq (word_of u) w) VERBS → w ≡ word_of v
found w v is = sym (found_in w VERBS v (sym is))

-- none of the verbs has the word
unknown_in : (w : List ℕ) (vs : List Verb) → find (λ (u : Verb). bytes_eq (word_of u) w) vs ≡ None → list_any (λ (u : Verb). bytes_eq (word_of u) w) vs ≡ false
unknown_in w [] is = refl
unknown_in w (u ∷ vs) is = go (λ k. unknown_in w vs k) (bytes_eq (word_of u) w) refl
  where
    go : (find (λ (q : Verb). bytes_eq (word_of q) w) vs ≡ None → list_any (λ (q : Verb). bytes_eq (word_of q) w) vs ≡ false) → (b : Bool) → bytes_eq (word_of u) w ≡ b
        → list_any (λ (q : Verb). bytes_eq (word_of q) w) (u ∷ vs) ≡ false
    go later true e =
        let there : Some u ≡ None = rw e at is in
        absurd (cc)
    go later false e = rw e (later (rw e at is))

is_known : List ℕ → Bool
is_known w = list_any (λ (u : Verb). bytes_eq (word_of u) w) VERBS

none_of : (w : List ℕ) (rs : List Row) → is_known w ≡ false → list_all (λ (r : Row). is_known r.0) rs ≡ true → find (λ (r : Row). bytes_eq r.0 w) rs ≡ None
none_of w [] unknown all = refl
none_of w (r ∷ rs) unknown all =
    let is : (is_known r.0 ≡ true) × (list_all (λ (q : Row). is_known q.0) rs ≡ true) = both (is_known r.0) (list_all (λ (q : Row). is_known q.0) rs) all in
    go is.0 (none_of w rs unknown is.1) (bytes_eq r.0 w) refl
  where
    apart : (b : Bool) → b ≡ false → b ≡ true → ⊥
    apart b f t = cc

    go : is_known r.0 ≡ true → find (λ (q : Row). bytes_eq q.0 w) rs ≡ None → (b : Bool) → bytes_eq r.0 w ≡ b → find (λ (q : Row). bytes_eq q.0 w) (r ∷ rs) ≡ None
    go here rest false is = rw is rest
    go here rest true is = absurd (apart (is_known w) unknown (ap is_known (sym ((bytes_eq-Decides r.0 w).0 is)) ∙ here))

-- each row of the table has the word of a verb
rows_known : list_all (λ (r : Row). is_known r.0) rows ≡ true
unfolding is_known
rows_known = refl

pub no_command : (line : List ℕ) → length line ≤ 140_000 → None ≡ find (λ (u : Verb). bytes_eq (word_of u) (first_word line).0) VERBS → Err (Refused refusals.Command) ≡ spoken line
unfolding is_known
no_command line short none =
    sym (spoken_by line false (le-ltb 140_000 (length line) short)
    ∙ ap (λ r. reading (read_row r (first_word line).1)) (none_of (first_word line).0 rows (unknown_in (first_word line).0 VERBS (sym none)) rows_known))

-- ---- whole lines

-- the command where there is one
abbrev pub some_command : Reading → Result (Option Command) LineFault
some_command (Ok command) = Ok (Some command)
some_command (Err fault) = Err fault

answered : (item : Item) → line_answer (Some item) ≡ some_command (as_read item)
answered (Ok command) = refl
answered (Err refusal) = refl

pub silent : (bytes line : List ℕ) → line ≡ without_return bytes → says_nothing line ≡ true → Ok None ≡ line_command bytes
unfolding line_command
silent bytes line cut is =
    sym (ap (λ l. line_answer (option_map (item_of readers) (parsed l))) (sym cut) ∙ ap (λ (b : Bool). line_answer (option_map (item_of readers) (if_said b line))) is)

pub says : (bytes line : List ℕ) (r : Reading) → line ≡ without_return bytes → says_nothing line ≡ false → r ≡ spoken line → some_command r ≡ line_command bytes
unfolding line_command spoken
says bytes line r cut is read =
    ap some_command read
    ∙ sym (ap (λ l. line_answer (option_map (item_of readers) (parsed l))) (sym cut)
    ∙ (ap (λ (b : Bool). line_answer (option_map (item_of readers) (if_said b line))) is
    ∙ answered (item_of readers (within_length (nat_lt 140_000 (length line)) line))))

-- what the rows want of memory is proved by
pub ruleset memory_of_rows = (never_memory, soup_takes, entry_takes, transfer_takes)
