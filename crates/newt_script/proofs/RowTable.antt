-- What each row of the table reads, over the readers that stay closed.
use Rattle.std.proofs.Common.{◌≡◌, ℕ, Bool, true, false, ◌==◌, List, length, Option, Some, None, Result, Ok, Err, if◌then◌else◌, codes, refl, ap, ◌∙◌}
use Rattle.newt_base.specs.Text.{hex_bytes}
use Rattle.newt_base.specs.declared.Refusal.{Refusal}
use Rattle.newt_base.specs.declared.Refusal.TheVariants.{Line as NotTheForm}
use Rattle.newt_graph.specs.Graph.{RawGraph}
use Rattle.newt_path.specs.Names.{path_of}
use Rattle.newt_spec_world.specs.declared.command.Command.{Command}
use Rattle.newt_spec_world.specs.declared.command.Command.TheVariants as command
use Rattle.newt_spec_script.specs.Words.{Reader, then_read, trimmed, of1, of2, of3, of5, word, name}
use Rattle.newt_spec_script.specs.Line.{unit, number, sig, ended, with_literal, with_stream, whole}
use Rattle.newt_script.specs.Graphs.{literal_in, stream_of, stream_word, literal_word}
use Rattle.newt_script_words.specs.Readers.{unit_of, number_of, sig_of, name_of, soup_of, entry_of, path_word, rest_of, is_ended}
use Rattle.newt_script.specs.Rows.{Reading, reading, row_reading}
use Rattle.newt_script.specs.Verbs.{unit_word, unit_command, soup_word, soup_command, entry_word, entry_command, transfer_word, transfer_command}
use Rattle.newt_script.specs.declared.verbs.UnitVerb.{UnitVerb}
use Rattle.newt_script.specs.declared.verbs.UnitVerb.TheVariants as unit_verb
use Rattle.newt_script.specs.declared.verbs.SoupVerb.{SoupVerb}
use Rattle.newt_script.specs.declared.verbs.SoupVerb.TheVariants as soup_verb
use Rattle.newt_script.specs.declared.verbs.EntryVerb.{EntryVerb}
use Rattle.newt_script.specs.declared.verbs.EntryVerb.TheVariants as entry_verb
use Rattle.newt_script.specs.declared.verbs.TransferVerb.{TransferVerb}
use Rattle.newt_script.specs.declared.verbs.TransferVerb.TheVariants as transfer_verb
use Rattle.newt_script.specs.declared.fault.LineFault.{LineFault}
use Rattle.newt_script.specs.declared.fault.LineFault.TheVariants.{Refused}

-- ---- how the code goes through a row

-- goes on after words that have the form
abbrev pub after : {A : Type 0} → Result (A × List ℕ) Refusal → (A → List ℕ → Reading) → Reading
after (Err refusal) more = Err (Refused refusal)
after (Ok (a, rest)) more = more a rest

-- the command, where nothing but blanks is left
abbrev pub finished : List ℕ → Command → Reading
finished rest c = if is_ended rest then Ok c else Err (Refused NotTheForm)

-- the command with a graph
abbrev pub with_graph : Result RawGraph LineFault → (RawGraph → Command) → Reading
with_graph (Ok graph) f = Ok (f graph)
with_graph (Err fault) f = Err fault

-- ---- the ends of rows

ends : (c : Command) (rest : List ℕ) → reading (ended (Ok (c, rest))) ≡ finished rest c
unfolding is_ended rest_of
ends c rest = go (length (trimmed rest) == 0) refl
  where
    go : (b : Bool) → (length (trimmed rest) == 0) ≡ b → reading (ended (Ok (c, rest))) ≡ finished rest c
    go true is = rw is refl
    go false is = rw is refl

ends_in_literal : (f : RawGraph → Command) (rest : List ℕ) → reading (with_literal (Ok (f, rest))) ≡ with_graph (literal_word (rest_of rest)) f
unfolding rest_of literal_word
ends_in_literal f rest = go (length (trimmed rest) == 0) refl (literal_in (trimmed rest)) refl
  where
    go : (b : Bool) → (length (trimmed rest) == 0) ≡ b → (o : Option RawGraph) → literal_in (trimmed rest) ≡ o
        → reading (with_literal (Ok (f, rest))) ≡ with_graph (literal_word (trimmed rest)) f
    go true is o found = rw is refl
    go false is None found = rw (is, found) refl
    go false is (Some g) found = rw (is, found) refl

ends_in_stream : (f : RawGraph → Command) (rest : List ℕ) → reading (with_stream (Ok (f, rest))) ≡ with_graph (stream_word (rest_of rest)) f
unfolding rest_of stream_word
ends_in_stream f rest = go (hex_bytes (trimmed rest)) refl
  where
    answered : (bytes : List ℕ) → hex_bytes (trimmed rest) ≡ Some bytes → (r : Result RawGraph Refusal) → stream_of bytes ≡ r
        → reading (with_stream (Ok (f, rest))) ≡ with_graph (stream_word (trimmed rest)) f
    answered bytes is (Ok g) found = rw (is, found) refl
    answered bytes is (Err r) found = rw (is, found) refl

    go : (o : Option (List ℕ)) → hex_bytes (trimmed rest) ≡ o → reading (with_stream (Ok (f, rest))) ≡ with_graph (stream_word (trimmed rest)) f
    go None is = rw is refl
    go (Some bytes) is = answered bytes is (stream_of bytes) refl

-- ---- words that are read one after another

abbrev pub mapped : {A B : Type 0} → (A → B) → Result (A × List ℕ) Refusal → Result (B × List ℕ) Refusal
mapped f (Err r) = Err r
mapped f (Ok (a, rest)) = Ok (f a, rest)

whole_after : {A : Type 0} (f : A → Command) (r : Result (A × List ℕ) Refusal) → reading (ended (mapped f r)) ≡ after r (λ a rest. finished rest (f a))
whole_after f (Err r) = refl
whole_after f (Ok (a, rest)) = ends (f a) rest

pub literal_after : {A : Type 0} (f : A → RawGraph → Command) (r : Result (A × List ℕ) Refusal)
    → reading (with_literal (mapped f r)) ≡ after r (λ a rest. with_graph (literal_word (rest_of rest)) (f a))
literal_after f (Err r) = refl
literal_after f (Ok (a, rest)) = ends_in_literal (f a) rest

stream_after : {A : Type 0} (f : A → RawGraph → Command) (r : Result (A × List ℕ) Refusal)
    → reading (with_stream (mapped f r)) ≡ after r (λ a rest. with_graph (stream_word (rest_of rest)) (f a))
stream_after f (Err r) = refl
stream_after f (Ok (a, rest)) = ends_in_stream (f a) rest

pub then_after : {A : Type 0} (k : A → List ℕ → Result (Command × List ℕ) Refusal) (r : Result (A × List ℕ) Refusal)
    → reading (ended (then_read r k)) ≡ after r (λ a rest. reading (ended (k a rest)))
then_after k (Err r) = refl
then_after k (Ok (a, rest)) = refl

module _ {A B R : Type 0} (p : Reader A) (q : Reader B) where
  pub one : (f : A → R) (cs : List ℕ) → of1 p f cs ≡ mapped f (p cs)
  one f cs = go (p cs)
    where
      go : (r : Result (A × List ℕ) Refusal) → then_read r (λ a rest. Ok (f a, rest)) ≡ mapped f r
      go (Err r) = refl
      go (Ok (a, rest)) = refl

  pub two : (f : A → B → R) (cs : List ℕ) → of2 p q f cs ≡ mapped (λ (x : A × B). f x.0 x.1) (of2 p q (λ a b. (a, b)) cs)
  two f cs = go (p cs)
    where
      inner : (a : A) (r : Result (B × List ℕ) Refusal)
          → then_read r (λ b rest. Ok (f a b, rest)) ≡ mapped (λ (x : A × B). f x.0 x.1) (then_read r (λ b rest. Ok ((a, b), rest)))
      inner a (Err r) = refl
      inner a (Ok (b, rest)) = refl

      go : (r : Result (A × List ℕ) Refusal)
          → then_read r (λ a. of1 q (f a)) ≡ mapped (λ (x : A × B). f x.0 x.1) (then_read r (λ a. of1 q (λ b. (a, b))))
      go (Err r) = refl
      go (Ok (a, rest)) = inner a (q rest)

  -- the first two, and what follows
  pub two_then : (k : A → B → Reader R) (cs : List ℕ) → then_read (p cs) (λ a rest. then_read (q rest) (k a)) ≡ then_read (of2 p q (λ a b. (a, b)) cs) (λ (x : A × B). k x.0 x.1)
  two_then k cs = go (p cs)
    where
      inner : (a : A) (r : Result (B × List ℕ) Refusal)
          → then_read r (k a) ≡ then_read (then_read r (λ b rest. Ok ((a, b), rest))) (λ (x : A × B). k x.0 x.1)
      inner a (Err r) = refl
      inner a (Ok (b, rest)) = refl

      go : (r : Result (A × List ℕ) Refusal)
          → then_read r (λ a rest. then_read (q rest) (k a)) ≡ then_read (then_read r (λ a. of1 q (λ b. (a, b)))) (λ (x : A × B). k x.0 x.1)
      go (Err r) = refl
      go (Ok (a, rest)) = inner a (q rest)

module _ {A B C R : Type 0} (p : Reader A) (q : Reader B) (s : Reader C) where
  -- the first three, and what follows
  pub three_then : (k : A → B → C → Reader R) (cs : List ℕ)
      → then_read (p cs) (λ a rest. then_read (q rest) (λ b rest. then_read (s rest) (k a b)))
      ≡ then_read (of3 p q s (λ a b c. (a, b, c)) cs) (λ (x : A × B × C). k x.0 x.1 x.2)
  three_then k cs = go (p cs)
    where
      last : (a : A) (b : B) (r : Result (C × List ℕ) Refusal)
          → then_read r (k a b) ≡ then_read (then_read r (λ c rest. Ok ((a, b, c), rest))) (λ (x : A × B × C). k x.0 x.1 x.2)
      last a b (Err r) = refl
      last a b (Ok (c, rest)) = refl

      inner : (a : A) (r : Result (B × List ℕ) Refusal)
          → then_read r (λ b rest. then_read (s rest) (k a b)) ≡ then_read (then_read r (λ b. of1 s (λ c. (a, b, c)))) (λ (x : A × B × C). k x.0 x.1 x.2)
      inner a (Err r) = refl
      inner a (Ok (b, rest)) = last a b (s rest)

      go : (r : Result (A × List ℕ) Refusal)
          → then_read r (λ a rest. then_read (q rest) (λ b rest. then_read (s rest) (k a b)))
          ≡ then_read (then_read r (λ a. of2 q s (λ b c. (a, b, c)))) (λ (x : A × B × C). k x.0 x.1 x.2)
      go (Err r) = refl
      go (Ok (a, rest)) = inner a (q rest)

-- ---- the rows

-- rows of no words
pub row_stores : (cs : List ℕ) → row_reading (codes "stores") cs ≡ finished cs command.Stores
unfolding row_reading
row_stores cs = ends command.Stores cs

pub row_quit : (cs : List ℕ) → row_reading (codes "quit") cs ≡ finished cs command.Quit
unfolding row_reading
row_quit cs = ends command.Quit cs

pub row_nsof : (cs : List ℕ) → row_reading (codes "nsof") cs ≡ with_graph (stream_word (rest_of cs)) command.Nsof
unfolding row_reading
row_nsof cs = ends_in_stream command.Nsof cs

pub row_lit : (cs : List ℕ) → row_reading (codes "lit") cs ≡ with_graph (literal_word (rest_of cs)) command.Lit
unfolding row_reading
row_lit cs = ends_in_literal command.Lit cs

pub row_resolve : (cs : List ℕ) → row_reading (codes "resolve") cs ≡ with_graph (literal_word (rest_of cs)) command.Resolve
unfolding row_reading
row_resolve cs = ends_in_literal command.Resolve cs

-- rows of one word
pub one_word : {A : Type 0} (p : Reader A) (f : A → Command) (cs : List ℕ) → reading (whole (of1 p f) cs) ≡ after (p cs) (λ a rest. finished rest (f a))
one_word p f cs = ap (λ r. reading (ended r)) (one p p f cs) ∙ whole_after f (p cs)

pub row_time : (cs : List ℕ) → row_reading (codes "time") cs ≡ after (number_of cs) (λ a rest. finished rest (command.Time a))
unfolding row_reading number_of
row_time cs = one_word number command.Time cs

pub row_addu : (cs : List ℕ) → row_reading (codes "addu") cs ≡ after (name_of cs) (λ s rest. with_graph (literal_word (rest_of rest)) (command.Addu s))
unfolding row_reading name_of
row_addu cs = ap (λ r. reading (with_literal r)) (one name name (λ s g. command.Addu s g) cs) ∙ literal_after (λ s g. command.Addu s g) (name cs)

-- rows that begin with a soup
pub two_words : {A B : Type 0} (p : Reader A) (q : Reader B) (f : A → B → Command) (cs : List ℕ)
    → reading (whole (of2 p q f) cs) ≡ after (of2 p q (λ a b. (a, b)) cs) (λ (x : A × B) rest. finished rest (f x.0 x.1))
two_words {A} {B} p q f cs = ap (λ r. reading (ended r)) (two p q f cs) ∙ whole_after (λ (x : A × B). f x.0 x.1) (of2 p q (λ a b. (a, b)) cs)

pub row_add : (cs : List ℕ) → row_reading (codes "add") cs ≡ after (soup_of cs) (λ x rest. with_graph (literal_word (rest_of rest)) (command.Add x.0 x.1))
unfolding row_reading soup_of unit_of name_of
row_add cs =
    ap (λ r. reading (with_literal r)) (two unit name (λ u s g. command.Add u s g) cs)
    ∙ literal_after (λ (x : ℕ × List ℕ) g. command.Add x.0 x.1 g) (of2 unit name (λ u s. (u, s)) cs)

pub row_addx : (cs : List ℕ) → row_reading (codes "addx") cs ≡ after (soup_of cs) (λ x rest. with_graph (stream_word (rest_of rest)) (command.Addx x.0 x.1))
unfolding row_reading soup_of unit_of name_of
row_addx cs =
    ap (λ r. reading (with_stream r)) (two unit name (λ u s g. command.Addx u s g) cs)
    ∙ stream_after (λ (x : ℕ × List ℕ) g. command.Addx x.0 x.1 g) (of2 unit name (λ u s. (u, s)) cs)

-- the same, pointwise
pub after_same : {A : Type 0} (f g : A → List ℕ → Reading) → ((a : A) (rest : List ℕ) → f a rest ≡ g a rest) → (r : Result (A × List ℕ) Refusal) → after r f ≡ after r g
after_same f g same (Err r) = refl
after_same f g same (Ok (a, rest)) = same a rest

-- a soup, and one word more
pub soup_and_word : {A B C : Type 0} (p : Reader A) (q : Reader B) (r : Reader C) (f : A → B → C → Command) (cs : List ℕ)
    → reading (whole (of3 p q r f) cs) ≡ after (of2 p q (λ a b. (a, b)) cs) (λ (x : A × B) rest. after (r rest) (λ c rest. finished rest (f x.0 x.1 c)))
soup_and_word {A} {B} p q r f cs =
    ap (λ o. reading (ended o)) (two_then p q (λ a b. of1 r (f a b)) cs)
    ∙ (then_after (λ (x : A × B). of1 r (f x.0 x.1)) (of2 p q (λ a b. (a, b)) cs)
    ∙ after_same (λ (x : A × B) rest. reading (whole (of1 r (f x.0 x.1)) rest)) (λ (x : A × B) rest. after (r rest) (λ c rest. finished rest (f x.0 x.1 c)))
    (λ x rest. one_word r (f x.0 x.1) rest) (of2 p q (λ a b. (a, b)) cs))

pub row_format : (cs : List ℕ) → row_reading (codes "format") cs ≡ after (soup_of cs) (λ x rest. after (sig_of rest) (λ n rest. finished rest (command.Format x.0 x.1 n)))
unfolding row_reading soup_of unit_of name_of sig_of
row_format cs = soup_and_word unit name sig command.Format cs

-- rows that begin with an entry
value_after : {A : Type 0} (f : A → Command) (r : Result (A × List ℕ) Refusal)
    → reading (ended (then_read r (λ a rest. Ok (f a, rest)))) ≡ after r (λ a rest. finished rest (f a))
value_after f (Err r) = refl
value_after f (Ok (a, rest)) = ends (f a) rest

three_words : {A B C : Type 0} (p : Reader A) (q : Reader B) (s : Reader C) (f : A → B → C → Command) (cs : List ℕ)
    → reading (whole (of3 p q s f) cs) ≡ after (of3 p q s (λ a b c. (a, b, c)) cs) (λ (x : A × B × C) rest. finished rest (f x.0 x.1 x.2))
three_words {A} {B} {C} p q s f cs =
    ap (λ o. reading (ended o)) (three_then p q s (λ a b c rest. Ok (f a b c, rest)) cs)
    ∙ value_after (λ (x : A × B × C). f x.0 x.1 x.2) (of3 p q s (λ a b c. (a, b, c)) cs)

five_words : {A B C D E : Type 0} (p : Reader A) (q : Reader B) (s : Reader C) (t : Reader D) (u : Reader E) (f : A → B → C → D → E → Command) (cs : List ℕ)
    → reading (whole (of5 p q s t u f) cs)
    ≡ after (of3 p q s (λ a b c. (a, b, c)) cs) (λ (x : A × B × C) rest. after (of2 t u (λ d e. (d, e)) rest) (λ (y : D × E) rest. finished rest (f x.0 x.1 x.2 y.0 y.1)))
five_words {A} {B} {C} {D} {E} p q s t u f cs =
    ap (λ o. reading (ended o)) (three_then p q s (λ a b c. of2 t u (f a b c)) cs)
    ∙ (then_after (λ (x : A × B × C). of2 t u (f x.0 x.1 x.2)) (of3 p q s (λ a b c. (a, b, c)) cs)
    ∙ after_same (λ (x : A × B × C) rest. reading (whole (of2 t u (f x.0 x.1 x.2)) rest))
    (λ (x : A × B × C) rest. after (of2 t u (λ d e. (d, e)) rest) (λ (y : D × E) rest. finished rest (f x.0 x.1 x.2 y.0 y.1)))
    (λ x rest. two_words t u (f x.0 x.1 x.2) rest) (of3 p q s (λ a b c. (a, b, c)) cs))

-- rows of an entry that end in a literal
literal_value : {A : Type 0} (f : A → RawGraph → Command) (r : Result (A × List ℕ) Refusal)
    → reading (with_literal (then_read r (λ a rest. Ok (f a, rest)))) ≡ after r (λ a rest. with_graph (literal_word (rest_of rest)) (f a))
literal_value f (Err r) = refl
literal_value f (Ok (a, rest)) = ends_in_literal (f a) rest

pub then_literal : {A : Type 0} (k : A → List ℕ → Result ((RawGraph → Command) × List ℕ) Refusal) (r : Result (A × List ℕ) Refusal)
    → reading (with_literal (then_read r k)) ≡ after r (λ a rest. reading (with_literal (k a rest)))
then_literal k (Err r) = refl
then_literal k (Ok (a, rest)) = refl

pub one_literal : {A : Type 0} (p : Reader A) (f : A → RawGraph → Command) (cs : List ℕ)
    → reading (with_literal (of1 p f cs)) ≡ after (p cs) (λ a rest. with_graph (literal_word (rest_of rest)) (f a))
one_literal p f cs = ap (λ r. reading (with_literal r)) (one p p f cs) ∙ literal_after f (p cs)

pub row_change : (cs : List ℕ)
    → row_reading (codes "change") cs ≡ after (entry_of cs) (λ x rest. with_graph (literal_word (rest_of rest)) (command.Change x.0 x.1 x.2))
unfolding row_reading entry_of unit_of name_of number_of
row_change cs =
    ap (λ r. reading (with_literal r)) (three_then unit name number (λ u s n rest. Ok ((λ g. command.Change u s n g), rest)) cs)
    ∙ literal_value (λ (x : ℕ × List ℕ × ℕ) g. command.Change x.0 x.1 x.2 g) (of3 unit name number (λ a b c. (a, b, c)) cs)

pub row_set : (cs : List ℕ)
    → row_reading (codes "set") cs
    ≡ after (entry_of cs) (λ x rest. after (path_word rest) (λ p rest. with_graph (literal_word (rest_of rest)) (command.Set x.0 x.1 x.2 p)))
unfolding row_reading entry_of unit_of name_of number_of path_word
row_set cs =
    ap (λ r. reading (with_literal r)) (three_then unit name number (λ u s n. of1 (word path_of) (λ p g. command.Set u s n p g)) cs)
    ∙ (then_literal (λ (x : ℕ × List ℕ × ℕ). of1 (word path_of) (λ p g. command.Set x.0 x.1 x.2 p g)) (of3 unit name number (λ a b c. (a, b, c)) cs)
    ∙ after_same (λ (x : ℕ × List ℕ × ℕ) rest. reading (with_literal (of1 (word path_of) (λ p g. command.Set x.0 x.1 x.2 p g) rest)))
    (λ (x : ℕ × List ℕ × ℕ) rest. after (word path_of rest) (λ p rest. with_graph (literal_word (rest_of rest)) (command.Set x.0 x.1 x.2 p)))
    (λ x rest. one_literal (word path_of) (λ p g. command.Set x.0 x.1 x.2 p g) rest) (of3 unit name number (λ a b c. (a, b, c)) cs))

-- ---- rows with equal words

-- U
pub row_unit : (v : UnitVerb) (cs : List ℕ) → row_reading (unit_word v) cs ≡ after (unit_of cs) (λ u rest. finished rest (unit_command v u))
unfolding row_reading unit_of
row_unit unit_verb.Mount cs = one_word unit command.Mount cs
row_unit unit_verb.Unmount cs = one_word unit command.Unmount cs
row_unit unit_verb.Default cs = one_word unit command.Default cs
row_unit unit_verb.Soups cs = one_word unit command.Soups cs

-- U S
pub row_soup : (v : SoupVerb) (cs : List ℕ) → row_reading (soup_word v) cs ≡ after (soup_of cs) (λ x rest. finished rest (soup_command v x.0 x.1))
unfolding row_reading soup_of unit_of name_of
row_soup soup_verb.Soup cs = two_words unit name command.Soup cs
row_soup soup_verb.Drop cs = two_words unit name command.Drop cs
row_soup soup_verb.Indexes cs = two_words unit name command.Indexes cs

-- U S UID
pub row_entry : (v : EntryVerb) (cs : List ℕ) → row_reading (entry_word v) cs ≡ after (entry_of cs) (λ x rest. finished rest (entry_command v x.0 x.1 x.2))
unfolding row_reading entry_of unit_of name_of number_of
row_entry entry_verb.Get cs = three_words unit name number command.Get cs
row_entry entry_verb.Getx cs = three_words unit name number command.Getx cs
row_entry entry_verb.Remove cs = three_words unit name number command.Remove cs
row_entry entry_verb.Alias cs = three_words unit name number command.Alias cs
row_entry entry_verb.Open cs = three_words unit name number command.Open cs

-- U S UID U S
pub row_transfer : (v : TransferVerb) (cs : List ℕ)
    → row_reading (transfer_word v) cs ≡ after (entry_of cs) (λ x rest. after (soup_of rest) (λ y rest. finished rest (transfer_command v x.0 x.1 x.2 y.0 y.1)))
unfolding row_reading entry_of soup_of unit_of name_of number_of
row_transfer transfer_verb.Copy cs = five_words unit name number unit name command.Copy cs
row_transfer transfer_verb.Move cs = five_words unit name number unit name command.Move cs
