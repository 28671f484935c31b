-- A command that a line gives has the form of its words.
use Rattle.std.proofs.Common.{◌≡◌, ℕ, ◌+◌, ◌*◌, ◌<◌, Bool, true, false, ◌&&◌, cond, ltb, List, [], ◌∷◌, Option, Some, None, refl, sym, ap, subst, ◌∙◌, arith}
use Rattle.std.specs.Prelude.{Result, Ok, Err, option_map}
use Rattle.std.specs.List.{AllByRecursion}
use Rattle.std.specs.Str.{chars, is_utf8}
use Rattle.std.proofs.lemmas.Bool.{ltb-true, and_parts}
use Rattle.std.proofs.lemmas.List.Elements.{All-from_recursion}
use Rattle.hex.specs.Hex.{hex_digit_value}
use Rattle.newt_base.specs.Text.{hex_byte, hex_bytes}
use Rattle.newt_base.specs.declared.Refusal.{Refusal}
use Rattle.newt_base.specs.declared.Refusal.TheVariants.{Malformed}
use Rattle.newt_graph.specs.Graph.{RawGraph}
use Rattle.newt_laws_images.proofs.Within.{graph-within}
use Rattle.newt_laws_world.specs.Worlds.{has_form}
use Rattle.newt_laws_world.proofs.Forms.{item-form, line-good}
use Rattle.newt_lit_read.specs.Literal.{literal_read}
use Rattle.newt_lit_read.specs.declared.fault.LitFault.{LitFault}
use Rattle.newt_lit_read.specs.declared.fault.LitFault.TheVariants.{Literal}
use Rattle.newt_lit_read.proofs.Whole.{reads_so}
use Rattle.newt_nsof_read.specs.Reading.{decoded}
use Rattle.newt_nsof_read.specs.declared.fault.NsofFault.{NsofFault}
use Rattle.newt_nsof_read.specs.declared.fault.NsofFault.TheVariants as faults
use Rattle.newt_nsof_read.proofs.Decoded.{read_as_spelled}
use Rattle.newt_spec_graph.specs.Limits.{within_limits}
use Rattle.newt_spec_nsof.specs.Text.{AreBytes}
use Rattle.newt_spec_nsof.proofs.Normal.{spelled_is_graph}
use Rattle.newt_spec_script.specs.Line.{Parsed, ready, literal, stream, bytes, parsed}
use Rattle.newt_spec_script.specs.Script.{Item, Readers, hex_item, item_of, stream_item, without_return}
use Rattle.newt_spec_world.specs.declared.command.Command.{Command}
use Rattle.newt_script.specs.Graphs.{if_read, literal_in, literal_of, or_refused, readers, stream_of}
use Rattle.newt_script.specs.Lines.{line_answer, line_command}

-- ---- bytes

abbrev are_small : List ℕ → Bool
are_small [] = true
are_small (b ∷ bs) = ltb b 256 && are_small bs

digit_small : (c v : ℕ) → hex_digit_value c ≡ Some v → v < 16
digit_small c v h = grind (arith)

-- the digits of a line write bytes
pub hex_small : (digits bs : List ℕ) → hex_bytes digits ≡ Some bs → are_small bs ≡ true
hex_small [] bs e = let same : [] ≡ bs = cc in subst (λ (l : List ℕ). are_small l ≡ true) same refl
hex_small (high ∷ []) bs e = absurd (cc)
hex_small (high ∷ low ∷ rest) bs e = go (hex_digit_value high) (hex_digit_value low) (hex_bytes rest) refl refl refl e (λ more c. hex_small rest more c)
  where
    small_byte : (h l : ℕ) (more : List ℕ) → h < 16 → l < 16 → are_small more ≡ true → are_small ((h * 16 + l) ∷ more) ≡ true
    small_byte h l more a b c = let fits : ltb (h * 16 + l) 256 ≡ true = grind (arith) in rw fits c

    go : (x y : Option ℕ) (o : Option (List ℕ)) → hex_digit_value high ≡ x → hex_digit_value low ≡ y → hex_bytes rest ≡ o → hex_byte x y o ≡ Some bs
        → ((more : List ℕ) → hex_bytes rest ≡ Some more → are_small more ≡ true) → are_small bs ≡ true
    go (Some h) (Some l) (Some more) a b c k later =
        let same : (h * 16 + l) ∷ more ≡ bs = cc in
        subst (λ (s : List ℕ). are_small s ≡ true) same (small_byte h l more (digit_small high h a) (digit_small low l b) (later more c))
    go None y o a b c k later = absurd (cc)
    go (Some h) None o a b c k later = absurd (cc)
    go (Some h) (Some l) None a b c k later = absurd (cc)

pub each_small : (bs : List ℕ) → are_small bs ≡ true → AreBytes bs
each_small bs h = All-from_recursion (λ b. b < 256) bs (go bs h)
  where
    go : (s : List ℕ) → are_small s ≡ true → AllByRecursion (λ b. b < 256) s
    go [] h = tt
    go (b ∷ s) h = let p = and_parts (ltb b 256) (are_small s) h in (ltb-true b 256 p.0, go s p.1)

-- ---- what is read is within the limits

literal_within : (text : List ℕ) (g : RawGraph) → literal_in text ≡ Some g → within_limits g ≡ true
unfolding literal_in literal_of
literal_within text g e = by (is_utf8 text) e
  where
    read : (r : Result RawGraph LitFault) → literal_read (chars text) ≡ r → if_read r ≡ Some g → within_limits g ≡ true
    read (Ok k) is f = let same : k ≡ g = cc in graph-within g (reads_so (chars text) g (is ∙ ap (λ (x : RawGraph). Ok x) same)).normal.graph
    read (Err fault) is f = absurd (cc)

    by : (b : Bool) → if_read (cond b (literal_read (chars text)) (Err Literal)) ≡ Some g → within_limits g ≡ true
    by true f = read (literal_read (chars text)) refl f
    by false f = absurd (cc)

-- a stream of bytes, and of nothing else
abbrev small_stream : List ℕ → Result RawGraph Refusal
small_stream bs = cond (are_small bs) (stream_of bs) (Err Malformed)

stream_within : (bs : List ℕ) (g : RawGraph) → small_stream bs ≡ Ok g → within_limits g ≡ true
unfolding stream_of
stream_within bs g e = by (are_small bs) refl e
  where
    read : (r : Result RawGraph NsofFault) → are_small bs ≡ true → decoded bs ≡ r → or_refused r ≡ Ok g → within_limits g ≡ true
    read (Ok k) small is f =
        let same : k ≡ g = cc in
        graph-within g (spelled_is_graph bs g ((read_as_spelled bs g (each_small bs small)).0 (is ∙ ap (λ (x : RawGraph). Ok x) same)))
    read (Err faults.Malformed) small is f = absurd (cc)
    read (Err faults.Compressed) small is f = absurd (cc)
    read (Err faults.Memory) small is f = absurd (cc)

    by : (b : Bool) → are_small bs ≡ b → cond b (or_refused (decoded bs)) (Err Malformed) ≡ Ok g → within_limits g ≡ true
    by true small f = read (decoded bs) small refl f
    by false small f = absurd (cc)

-- ---- items

abbrev small_readers : Readers
small_readers = record { literal_of = literal_in; stream_of = small_stream }

same_item : (p : Parsed) → item_of readers p ≡ item_of small_readers p
same_item (ready r) = refl
same_item (literal text f) = refl
same_item (bytes digits f) = refl
same_item (stream digits f) = go (hex_bytes digits) refl
  where
    go : (o : Option (List ℕ)) → hex_bytes digits ≡ o → hex_item readers o f ≡ hex_item small_readers o f
    go None e = refl
    go (Some bs) e = ap {B = Item} (λ r. stream_item r f) (sym (ap (λ (b : Bool). cond b (stream_of bs) (Err Malformed)) (hex_small digits bs e)))

pub has_its_form : (line : List ℕ) (c : Command) → line_command line ≡ Ok (Some c) → has_form c ≡ true
unfolding line_command
has_its_form line c e = go (parsed (without_return line)) refl e
  where
    item : (p : Parsed) → parsed (without_return line) ≡ Some p → (i : Item) → item_of readers p ≡ i → line_answer (Some i) ≡ Ok (Some c) → has_form c ≡ true
    item p is (Ok d) k f =
        let same : d ≡ c = cc in
        item-form small_readers literal_within stream_within p (line-good (without_return line) p is) c (sym (same_item p) ∙ (k ∙ ap (λ (x : Command). Ok x) same))
    item p is (Err r) k f = absurd (cc)

    go : (o : Option Parsed) → parsed (without_return line) ≡ o → line_answer (option_map (item_of readers) o) ≡ Ok (Some c) → has_form c ≡ true
    go None is f = absurd (cc)
    go (Some p) is f = item p is (item_of readers p) refl f
