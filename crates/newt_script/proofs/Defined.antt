-- The items of a script are those that the grammars of literals and of object streams give.
use Rattle.std.proofs.Common.{◌≡◌, ℕ, Bool, true, false, cond, List, [], ◌∷◌, Option, Some, None}
use Rattle.std.proofs.Common.{refl, sym, ap, ◌∙◌, inl, inr}
use Rattle.std.specs.Prelude.{Result, Ok, Err, map}
use Rattle.std.specs.Str.{chars, is_utf8}
use Rattle.std.proofs.lemmas.Str.{IsUtf8-from_is_utf8, is_utf8-from_IsUtf8}
use Rattle.newt_base.specs.Text.{hex_bytes}
use Rattle.newt_graph.specs.Graph.{RawGraph}
use Rattle.newt_lit_read.specs.Literal.{graph_read, or_literal, literal_read}
use Rattle.newt_lit_read.specs.declared.fault.LitFault.TheVariants.{Literal}
use Rattle.newt_lit_read.proofs.Whole.{reads_so, refuses_so, one_reading}
use Rattle.newt_nsof_read.specs.Reading.{decoded}
use Rattle.newt_nsof_read.specs.declared.fault.NsofFault.{NsofFault}
use Rattle.newt_nsof_read.specs.declared.fault.NsofFault.TheVariants.{Malformed, Compressed, Memory}
use Rattle.newt_nsof_read.proofs.Complete.{spelled_once}
use Rattle.newt_nsof_read.proofs.Decoded.{read_as_spelled, malformed_is_unspelled}
use Rattle.newt_nsof_read.proofs.Decoded.{compressed_is_spelled_widely, no_want_of_memory}
use Rattle.newt_spec_nsof.specs.Text.{AreBytes, Spells, SpellsWide}
use Rattle.newt_spec_nsof.proofs.Wider.{spelled_wider}
use Rattle.newt_spec_script.specs.Line.{Parsed, ready, literal, stream, bytes}
use Rattle.newt_spec_script.specs.Script.{Item, ReadsStream, ReadsHex, ReadsParsed, ReadsLines}
use Rattle.newt_spec_script.specs.Script.{IsScript, parsed_lines, stream_item, hex_item}
use Rattle.newt_spec_script.specs.Script.{literal_item, item_of, items_of}
use Rattle.newt_spec_world.specs.declared.command.Command.{Command}
use Rattle.newt_script.specs.Defined.{ReadsLiteral}
use Rattle.newt_script.specs.Graphs.{if_read, literal_in, literal_of, or_refused, readers}
use Rattle.newt_script.specs.Graphs.{stream_of}
use Rattle.newt_script.proofs.Forms.{each_small, hex_small}

-- what a line gives, a stream, and bytes of a stream, by the two grammars
abbrev Given : Parsed → Item → Type 0
Given = ReadsParsed ReadsLiteral Spells SpellsWide

abbrev GivenStream : List ℕ → (RawGraph → Command) → Item → Type 0
GivenStream = ReadsStream ReadsLiteral Spells SpellsWide

abbrev GivenHex : Option (List ℕ) → (RawGraph → Command) → Item → Type 0
GivenHex = ReadsHex ReadsLiteral Spells SpellsWide

abbrev GivenLines : List Parsed → List Item → Type 0
GivenLines = ReadsLines ReadsLiteral Spells SpellsWide

literal_reads : (text : List ℕ) (f : RawGraph → Command)
    → Given (literal text f) (literal_item (literal_in text) f)
unfolding literal_in literal_of literal_read
literal_reads text f = go (is_utf8 text) (graph_read (chars text)) refl refl
  where
    apart : is_utf8 text ≡ true → is_utf8 text ≡ false → ⊥
    apart t f = cc

    go : (b : Bool) (o : Option RawGraph) → is_utf8 text ≡ b → graph_read (chars text) ≡ o
        → Given (literal text f) (literal_item (if_read (cond b (or_literal o) (Err Literal))) f)
    go true (Some g) is e =
        inl (g, (IsUtf8-from_is_utf8 text is, reads_so (chars text) g (ap or_literal e)), refl)
    go true None is e = inr ((λ g r. refuses_so (chars text) (ap or_literal e) g r.1), refl)
    go false o is e = inr ((λ g r. apart (is_utf8-from_IsUtf8 text r.0) is), refl)

stream_reads : (bs : List ℕ) (f : RawGraph → Command) → AreBytes bs
    → GivenStream bs f (stream_item (stream_of bs) f)
unfolding stream_of
stream_reads bs f are = go (decoded bs) refl
  where
    go : (r : Result RawGraph NsofFault) → decoded bs ≡ r
        → GivenStream bs f (stream_item (or_refused r) f)
    go (Ok g) e = inl (g, (read_as_spelled bs g are).0 e, refl)
    go (Err Malformed) e = inr (inr ((malformed_is_unspelled bs are).0 e, refl))
    go (Err Compressed) e =
        let c = (compressed_is_spelled_widely bs are).0 e in inr (inl (c.1, c.0, refl))
    go (Err Memory) e = absurd (no_want_of_memory bs e)

reads : (p : Parsed) → Given p (item_of readers p)
reads (ready r) = refl
reads (bytes digits f) = refl
reads (literal text f) = literal_reads text f
reads (stream digits f) = go (hex_bytes digits) refl
  where
    go : (o : Option (List ℕ)) → hex_bytes digits ≡ o → GivenHex o f (hex_item readers o f)
    go None e = refl
    go (Some bs) e = stream_reads bs f (each_small bs (hex_small digits bs e))

each_reads : (ps : List Parsed) → GivenLines ps (map (item_of readers) ps)
each_reads [] = tt
each_reads (p ∷ ps) = (reads p, each_reads ps)

pub read_as_defined : (script : List ℕ)
    → IsScript ReadsLiteral Spells SpellsWide script (items_of readers script)
read_as_defined script = each_reads (parsed_lines script)

-- ---- and they alone

literal_once : (text : List ℕ) (f : RawGraph → Command) (x y : Item)
    → Given (literal text f) x → Given (literal text f) y → x ≡ y
literal_once text f x y (inl (g, r, a)) (inl (h, s, b)) =
    a ∙ (ap {B = Item} (λ (k : RawGraph). Ok (f k)) (one_reading (chars text) g h r.1 s.1) ∙ sym b)
literal_once text f x y (inl (g, r, a)) (inr (none, b)) = absurd (none g r)
literal_once text f x y (inr (none, a)) (inl (h, s, b)) = absurd (none h s)
literal_once text f x y (inr (none, a)) (inr (never, b)) = a ∙ sym b

stream_once : (bs : List ℕ) (f : RawGraph → Command) (x y : Item)
    → GivenStream bs f x → GivenStream bs f y → x ≡ y
stream_once bs f x y (inl (g, r, a)) (inl (h, s, b)) =
    a ∙ (ap {B = Item} (λ (k : RawGraph). Ok (f k)) (spelled_once {wide = false} bs g h r s) ∙ sym
    b)
stream_once bs f x y (inl (g, r, a)) (inr (inl (none, wide, b))) = absurd (none g r)
stream_once bs f x y (inl (g, r, a)) (inr (inr (never, b))) =
    absurd (never g (spelled_wider bs g r))
stream_once bs f x y (inr (inl (none, wide, a))) (inl (h, s, b)) = absurd (none h s)
stream_once bs f x y (inr (inl (none, wide, a))) (inr (inl (other, also, b))) = a ∙ sym b
stream_once bs f x y (inr (inl (none, wide, a))) (inr (inr (never, b))) =
    absurd (never wide.0 wide.1)
stream_once bs f x y (inr (inr (never, a))) (inl (h, s, b)) =
    absurd (never h (spelled_wider bs h s))
stream_once bs f x y (inr (inr (never, a))) (inr (inl (none, wide, b))) =
    absurd (never wide.0 wide.1)
stream_once bs f x y (inr (inr (never, a))) (inr (inr (also, b))) = a ∙ sym b

hex_once : (o : Option (List ℕ)) (f : RawGraph → Command) (x y : Item)
    → GivenHex o f x → GivenHex o f y → x ≡ y
hex_once None f x y a b = a ∙ sym b
hex_once (Some bs) f x y a b = stream_once bs f x y a b

once : (p : Parsed) (x y : Item) → Given p x → Given p y → x ≡ y
once (ready r) x y a b = a ∙ sym b
once (bytes digits f) x y a b = a ∙ sym b
once (literal text f) x y a b = literal_once text f x y a b
once (stream digits f) x y a b = hex_once (hex_bytes digits) f x y a b

each_once : (ps : List Parsed) (xs ys : List Item) → GivenLines ps xs → GivenLines ps ys → xs ≡ ys
each_once [] [] [] a b = refl
each_once [] [] (y ∷ ys) a b = absurd b
each_once [] (x ∷ xs) ys a b = absurd a
each_once (p ∷ ps) [] ys a b = absurd a
each_once (p ∷ ps) (x ∷ xs) [] a b = absurd b
each_once (p ∷ ps) (x ∷ xs) (y ∷ ys) a b =
    let first : x ≡ y = once p x y a.0 b.0 in
    let others : xs ≡ ys = each_once ps xs ys a.1 b.1 in
    cc

pub one_script : (script : List ℕ) (items : List Item)
    → IsScript ReadsLiteral Spells SpellsWide script items → items ≡ items_of readers script
one_script script items is =
    each_once (parsed_lines script) items (items_of readers script) is (read_as_defined script)
