-- Literals in bytes.
use Rattle.std.proofs.Common.{◌≡◌, ◌≢◌, ℕ, true, false, List, Result, Err, refl, sym, ◌∙◌, ap}
use Rattle.std.proofs.lemmas.Str.{IsUtf8-from_is_utf8, is_utf8-from_IsUtf8}
use Rattle.std.specs.Str.{IsUtf8, chars, is_utf8}
use Rattle.newt_graph.specs.Graph.{RawGraph}
use Rattle.newt_lit_read.specs.Literal.{literal_read}
use Rattle.newt_lit_read.specs.declared.fault.LitFault.{LitFault}
use Rattle.newt_lit_read.specs.declared.fault.LitFault.TheVariants.{Literal, Memory}
use Rattle.newt_script.specs.Graphs.{literal_of}

of_text : (bytes : List ℕ) → is_utf8 bytes ≡ true → literal_of bytes ≡ literal_read (chars bytes)
unfolding literal_of
of_text bytes is = rw is refl

of_no_text : (bytes : List ℕ) → is_utf8 bytes ≡ false → literal_of bytes ≡ Err Literal
unfolding literal_of
of_no_text bytes is = rw is refl

is_no_text : (bytes : List ℕ) → ¬ IsUtf8 bytes → is_utf8 bytes ≡ false
is_no_text bytes none =
    elim (is_utf8 bytes) as (λ v. is_utf8 bytes ≡ v → is_utf8 bytes ≡ false) [
      | true ↦ λ is. absurd (none (IsUtf8-from_is_utf8 bytes is))
      | false ↦ λ is. is
    ] refl

-- bytes that are a text are read as it
pub text_read : (bytes text : List ℕ) (read : Result RawGraph LitFault) → IsUtf8 bytes → text ≡ bytes
    → (read ≢ Err Memory → read ≡ literal_read (chars text)) → read ≢ Err Memory → read ≡ literal_of bytes
text_read bytes text read utf8 same reading apart =
    reading apart ∙ (ap (λ t. literal_read (chars t)) same ∙ sym (of_text bytes (is_utf8-from_IsUtf8 bytes utf8)))

-- others are no literal
pub no_text_read : (bytes : List ℕ) → ¬ IsUtf8 bytes → Err Literal ≡ literal_of bytes
no_text_read bytes none = sym (of_no_text bytes (is_no_text bytes none))
