-- The commands that lines give have the forms of their words.
use Rattle.std.proofs.Common.{arith, ◌≡◌, refl, ap, ◌∙◌, subst, ℕ, suc, ◌+◌, Bool, true, false, not, ◌&&◌, ◌||◌, ◌==◌, List, [], ◌∷◌, length, find, take, drop, nat_le, nat_lt, Option, Some, None, option_and_then, option_map, Result, Ok, Err, if◌then◌else◌}
use Rattle.std.specs.List.{list_all, slice_split}
use Rattle.std.specs.Prelude.{⊤, bytes_eq}
use Rattle.std.proofs.lemmas.Bool.{and_parts}
use Rattle.newt_base.specs.declared.Refusal.{Refusal}
use Rattle.newt_base.specs.declared.Refusal.TheVariants.{Line as NotTheForm}
use Rattle.newt_base.specs.Names.{is_name, same_name, is_identifier, needs_quotes, valid_path}
use Rattle.newt_base.specs.Text.{below, digits_value, signed_value, hex_bytes}
use Rattle.newt_graph.specs.Graph.{RawGraph}
use Rattle.newt_spec_graph.specs.Limits.{within_limits}
use Rattle.newt_spec_graph.specs.Lists.{Each, all_apart}
use Rattle.newt_spec_graph.proofs.Lists.{each-at, none-some, some-same}
use Rattle.newt_path.specs.Names.{path_of}
use Rattle.newt_spec_store.specs.Keys.{Path}
use Rattle.newt_spec_world.specs.declared.command.Command.{Command}
use Rattle.newt_spec_world.specs.declared.command.Command.TheVariants as command
use Rattle.newt_spec_world.specs.declared.command.PartWord.{PartWord}
use Rattle.newt_spec_script.specs.Words.{Reader, then_read, of1, of2, of3, of4, of5, of6, or_not_the_form, word, decimal_to, one_to, only, bare_name, quoted, if_name, name_from, name, ends_word, skip_blanks, is_blank, part, part_of, kind_word, order_word, split_at, words, all_words, several, symbol}
use Rattle.newt_spec_script.specs.Line.{Parsed, ready, literal, stream, bytes, ended, with_literal, with_stream, with_bytes, whole, and_literal, and_stream, and_bytes, alone, unit, number, sig, len, cursor, most, watch, copy, if_distinct, distinct, or_row, tags_row, star, query_by, query_row, Row, rows, read_row, row_of, within_length, if_said, parsed, says_nothing, first_word, info_row}
use Rattle.newt_spec_script.specs.Script.{Item, Readers, literal_item, stream_item, hex_item, bytes_item, item_of}
use Rattle.newt_laws_world.specs.Worlds.{has_form, parts_fit}
use Rattle.newt_laws_world.proofs.Settled.{find-passes}

-- ---- readers

-- what a reader gives has this
abbrev Gives : {A : Type 0} → (A → Type 0) → Reader A → Type 0
Gives P reader = (cs : List ℕ) (a : _) (rest : List ℕ) → reader cs ≡ Ok (a, rest) → P a

ok-first : {A B : Type 0} (a c : A) (b d : B) → ◌≡◌ {A = Result (A × B) Refusal} (Ok (a, b)) (Ok (c, d)) → a ≡ c
ok-first {A} {B} a c b d e = let pair : ◌≡◌ {A = A × B} (a, b) (c, d) = cc in ap (λ (q : A × B). q.0) pair

gives-any : {A : Type 0} (reader : Reader A) → Gives (λ a. ⊤) reader
gives-any reader cs a rest e = tt

then-read : {A B : Type 0} (o : Result (A × List ℕ) Refusal) (k : A → List ℕ → Result (B × List ℕ) Refusal) (x : B) (rest : List ℕ) → then_read o k ≡ Ok (x, rest)
    → (a : A) × (more : List ℕ) × (o ≡ Ok (a, more)) × (k a more ≡ Ok (x, rest))
then-read (Err r) k x rest e = cc
then-read (Ok (a, more)) k x rest e = (a, more, refl, e)

module _ {R : Type 0} (Q : R → Type 0) where
  gives-1 : {A : Type 0} (P : A → Type 0) (p : Reader A) (f : A → R) → Gives P p → ((a : A) → P a → Q (f a)) → Gives Q (of1 p f)
  gives-1 P p f gp h cs x rest e =
      let t = then-read (p cs) (λ a more. Ok (f a, more)) x rest e in
      subst Q (ok-first (f t.0) x t.1 rest t.3) (h t.0 (gp cs t.0 t.1 t.2))

  gives-2 : {A B : Type 0} (P : A → Type 0) (S : B → Type 0) (p : Reader A) (q : Reader B) (f : A → B → R) → Gives P p → Gives S q → ((a : A) (b : B) → P a → S b → Q (f a b)) → Gives Q (of2 p q f)
  gives-2 P S p q f gp gq h cs x rest e =
      let t = then-read (p cs) (λ a. of1 q (f a)) x rest e in
      gives-1 S q (f t.0) gq (λ b k. h t.0 b (gp cs t.0 t.1 t.2) k) t.1 x rest t.3

  gives-3 : {A B C : Type 0} (P : A → Type 0) (S : B → Type 0) (T : C → Type 0) (p : Reader A) (q : Reader B) (r : Reader C) (f : A → B → C → R)
      → Gives P p → Gives S q → Gives T r → ((a : A) (b : B) (c : C) → P a → S b → T c → Q (f a b c)) → Gives Q (of3 p q r f)
  gives-3 P S T p q r f gp gq gr h cs x rest e =
      let t = then-read (p cs) (λ a. of2 q r (f a)) x rest e in
      gives-2 S T q r (f t.0) gq gr (λ b c k l. h t.0 b c (gp cs t.0 t.1 t.2) k l) t.1 x rest t.3

  gives-4 : {A B C D : Type 0} (P : A → Type 0) (S : B → Type 0) (T : C → Type 0) (U : D → Type 0) (p : Reader A) (q : Reader B) (r : Reader C) (s : Reader D) (f : A → B → C → D → R)
      → Gives P p → Gives S q → Gives T r → Gives U s → ((a : A) (b : B) (c : C) (d : D) → P a → S b → T c → U d → Q (f a b c d)) → Gives Q (of4 p q r s f)
  gives-4 P S T U p q r s f gp gq gr gs h cs x rest e =
      let t = then-read (p cs) (λ a. of3 q r s (f a)) x rest e in
      gives-3 S T U q r s (f t.0) gq gr gs (λ b c d k l m. h t.0 b c d (gp cs t.0 t.1 t.2) k l m) t.1 x rest t.3

  -- whatever the values are
  all-1 : {A : Type 0} (p : Reader A) (f : A → R) → ((a : A) → Q (f a)) → Gives Q (of1 p f)
  all-1 p f h = gives-1 (λ a. ⊤) p f (gives-any p) (λ a _. h a)

  all-2 : {A B : Type 0} (p : Reader A) (q : Reader B) (f : A → B → R) → ((a : A) (b : B) → Q (f a b)) → Gives Q (of2 p q f)
  all-2 p q f h = gives-2 (λ a. ⊤) (λ b. ⊤) p q f (gives-any p) (gives-any q) (λ a b _ _. h a b)

  all-3 : {A B C : Type 0} (p : Reader A) (q : Reader B) (r : Reader C) (f : A → B → C → R) → ((a : A) (b : B) (c : C) → Q (f a b c)) → Gives Q (of3 p q r f)
  all-3 p q r f h cs x rest e = let t = then-read (p cs) (λ a. of2 q r (f a)) x rest e in all-2 q r (f t.0) (h t.0) t.1 x rest t.3

  all-4 : {A B C D : Type 0} (p : Reader A) (q : Reader B) (r : Reader C) (s : Reader D) (f : A → B → C → D → R) → ((a : A) (b : B) (c : C) (d : D) → Q (f a b c d)) → Gives Q (of4 p q r s f)
  all-4 p q r s f h cs x rest e = let t = then-read (p cs) (λ a. of3 q r s (f a)) x rest e in all-3 q r s (f t.0) (h t.0) t.1 x rest t.3

  all-5 : {A B C D E : Type 0} (p : Reader A) (q : Reader B) (r : Reader C) (s : Reader D) (u : Reader E) (f : A → B → C → D → E → R) → ((a : A) (b : B) (c : C) (d : D) (i : E) → Q (f a b c d i)) → Gives Q (of5 p q r s u f)
  all-5 p q r s u f h cs x rest e = let t = then-read (p cs) (λ a. of4 q r s u (f a)) x rest e in all-4 q r s u (f t.0) (h t.0) t.1 x rest t.3

  all-6 : {A B C D E F : Type 0} (p : Reader A) (q : Reader B) (r : Reader C) (s : Reader D) (u : Reader E) (v : Reader F) (f : A → B → C → D → E → F → R) → ((a : A) (b : B) (c : C) (d : D) (i : E) (j : F) → Q (f a b c d i j)) → Gives Q (of6 p q r s u v f)
  all-6 p q r s u v f h cs x rest e = let t = then-read (p cs) (λ a. of5 q r s u v (f a)) x rest e in all-5 q r s u v (f t.0) (h t.0) t.1 x rest t.3

-- ---- words

only-passes : {A : Type 0} (test : A → Bool) (a b : A) → only test a ≡ Some b → test b ≡ true
only-passes test a b e = go (test a) refl e
  where
    go : (k : Bool) → test a ≡ k → (if k then Some a else None) ≡ Some b → test b ≡ true
    go true is f = subst (λ x. test x ≡ true) (some-same a b f) is
    go false is f = absurd (none-some b f)

only-same : {A : Type 0} (test : A → Bool) (a b : A) → only test a ≡ Some b → a ≡ b
only-same test a b e = go (test a) e
  where
    go : (k : Bool) → (if k then Some a else None) ≡ Some b → a ≡ b
    go true f = some-same a b f
    go false f = absurd (none-some b f)

or-form : {A : Type 0} (o : Option A) (rest : List ℕ) (a : A) (more : List ℕ) → or_not_the_form o rest ≡ Ok (a, more) → o ≡ Some a
or-form None rest a more e = cc
or-form (Some b) rest a more e = ap Some (ok-first b a rest more e)

-- a word has what its form asks
gives-word : {A : Type 0} (P : A → Type 0) (form : List ℕ → Option A) → ((cs : List ℕ) (a : A) → form cs ≡ Some a → P a) → Gives P (word form)
gives-word P form h cs a rest e =
    go (length_of cs == 0) (or-form (if length_of cs == 0 then None else form (first cs)) (others cs) a rest e)
  where
    text : List ℕ → List ℕ
    text cs = skip_blanks cs

    length_of : List ℕ → ℕ
    length_of cs = Rattle.std.specs.List.prefix_len (λ c. not (is_blank c)) (skip_blanks cs)

    first : List ℕ → List ℕ
    first cs = take (length_of cs) (skip_blanks cs)

    others : List ℕ → List ℕ
    others cs = drop (length_of cs) (skip_blanks cs)

    go : (b : Bool) → (if b then None else form (first cs)) ≡ Some a → P a
    go true f = absurd (none-some a f)
    go false f = h (first cs) a f

decimal-fits : (most : ℕ) (cs : List ℕ) (a : ℕ) → decimal_to most cs ≡ Some a → nat_le a most ≡ true
decimal-fits most cs a e = go (digits_value cs) e
  where
    go : (o : Option ℕ) → below (most + 1) o ≡ Some a → nat_le a most ≡ true
    go None e = absurd (none-some a e)
    go (Some n) e = test (nat_lt n (most + 1)) refl e
      where
        test : (b : Bool) → nat_lt n (most + 1) ≡ b → (if b then Some n else None) ≡ Some a → nat_le a most ≡ true
        test true is f = let same = some-same n a f in grind arith
        test false is f = absurd (none-some a f)

gives-sig : Gives (λ n. nat_le n 536_870_911 ≡ true) sig
gives-sig = gives-word (λ n. nat_le n 536_870_911 ≡ true) (decimal_to 536_870_911) (decimal-fits 536_870_911)

-- how many notes a watch keeps
abbrev CanKeep : ℕ → Type 0
CanKeep n = (nat_le 1 n && nat_le n 64) ≡ true

gives-most : Gives CanKeep most
gives-most = gives-word CanKeep (one_to 64) (λ cs a e. go cs (decimal_to 64 cs) refl a e)
  where
    go : (cs : List ℕ) (o : Option ℕ) → decimal_to 64 cs ≡ o → (a : ℕ) → option_and_then (only (nat_le 1)) o ≡ Some a → CanKeep a
    go cs None is a e = absurd (none-some a e)
    go cs (Some n) is a e =
        let some = only-passes (nat_le 1) n a e in
        let fits = decimal-fits 64 cs n is in
        let same = only-same (nat_le 1) n a e in
        grind (arith, some, fits, same)

path-good : (cs : List ℕ) (p : Path) → path_of cs ≡ Some p → valid_path p ≡ true
unfolding path_of
path-good cs p e = only-passes valid_path (slice_split (λ c. c == 46) cs) p e

gives-path : Gives (λ p. valid_path p ≡ true) (word path_of)
gives-path = gives-word (λ p. valid_path p ≡ true) path_of path-good

named : (q : Option (List ℕ × List ℕ)) (n rest : List ℕ) → if_name q ≡ Ok (n, rest) → is_name n ≡ true
named None n rest e = cc
named (Some q) n rest e = go (is_name q.0 && ends_word q.1) refl e
  where
    go : (b : Bool) → (is_name q.0 && ends_word q.1) ≡ b → ◌≡◌ {A = Result (List ℕ × List ℕ) Refusal} (if b then Ok q else Err NotTheForm) (Ok (n, rest)) → is_name n ≡ true
    go true is f = subst (λ m. is_name m ≡ true) (ok-first q.0 n q.1 rest f) (and_parts (is_name q.0) (ends_word q.1) is).0
    go false is f = cc

gives-name : Gives (λ n. is_name n ≡ true) name
gives-name cs n rest e = from (skip_blanks cs) e
  where
    from : (cs : List ℕ) → name_from cs ≡ Ok (n, rest) → is_name n ≡ true
    from [] f = cc
    from (c ∷ more) f = go (c == 34) f
      where
        bare : Gives (λ n. is_name n ≡ true) (word bare_name)
        bare = gives-word (λ n. is_name n ≡ true) bare_name (λ cs a e. (and_parts (is_name a) (list_all (λ c. not (needs_quotes c)) a) (only-passes (λ cs. is_name cs && list_all (λ c. not ((c == 32) || (c == 34) || (c == 92))) cs) cs a e)).0)

        go : (b : Bool) → (if b then if_name (quoted more) else word bare_name (c ∷ more)) ≡ Ok (n, rest) → is_name n ≡ true
        go true k = named (quoted more) n rest k
        go false k = bare (c ∷ more) n rest k

-- ---- several words

all-words : {A : Type 0} (test : A → Bool) (form : List ℕ → Option A) → ((cs : List ℕ) (a : A) → form cs ≡ Some a → test a ≡ true)
    → (ws : List (List ℕ)) (xs : List A) → all_words form ws ≡ Some xs → (list_all test xs ≡ true) × (length xs ≡ length ws)
all-words test form h [] xs e = subst (λ ys. (list_all test ys ≡ true) × (length ys ≡ 0)) (some-same [] xs e) (refl, refl)
all-words {A} test form h (w ∷ ws) xs e = go (form w) refl (all_words form ws) (all-words test form h ws) e
  where
    more : (a : A) → test a ≡ true → (p : Option (List A)) → ((ys : List A) → p ≡ Some ys → (list_all test ys ≡ true) × (length ys ≡ length ws)) → option_map (λ ys. a ∷ ys) p ≡ Some xs
        → (list_all test xs ≡ true) × (length xs ≡ suc (length ws))
    more a good None ih f = absurd (none-some xs f)
    more a good (Some ys) ih f = let k = ih ys refl in
        subst (λ zs. (list_all test zs ≡ true) × (length zs ≡ suc (length ws))) (some-same (a ∷ ys) xs f) (grind (arith, good, k.0), grind (arith, k.1))

    go : (o : Option A) → form w ≡ o → (p : Option (List A)) → ((ys : List A) → p ≡ Some ys → (list_all test ys ≡ true) × (length ys ≡ length ws)) → option_and_then (λ a. option_map (λ ys. a ∷ ys) p) o ≡ Some xs
        → (list_all test xs ≡ true) × (length xs ≡ suc (length ws))
    go None is p ih f = absurd (none-some xs f)
    go (Some a) is p ih f = more a (h w a is) p ih f

-- one to so many values, each with what its form asks
several-good : {A : Type 0} (test : A → Bool) (most : ℕ) (form : List ℕ → Option A) → ((cs : List ℕ) (a : A) → form cs ≡ Some a → test a ≡ true)
    → Gives (λ xs. (list_all test xs ≡ true) × (nat_le 1 (length xs) ≡ true) × (nat_le (length xs) most ≡ true)) (several most form)
several-good {A} test most form h cs xs rest e =
    go (nat_le 1 (length (words cs)) && nat_le (length (words cs)) most) refl (or-form (if nat_le 1 (length (words cs)) && nat_le (length (words cs)) most then all_words form (words cs) else None) [] xs rest e)
  where
    go : (b : Bool) → (nat_le 1 (length (words cs)) && nat_le (length (words cs)) most) ≡ b → (if b then all_words form (words cs) else None) ≡ Some xs
        → (list_all test xs ≡ true) × (nat_le 1 (length xs) ≡ true) × (nat_le (length xs) most ≡ true)
    go true is f =
        let k = all-words test form h (words cs) xs f in
        let parts = and_parts (nat_le 1 (length (words cs))) (nat_le (length (words cs)) most) is in
        (k.0, ap (nat_le 1) k.1 ∙ parts.0, ap (λ n. nat_le n most) k.1 ∙ parts.1)
    go false is f = absurd (none-some xs f)

part-good : (cs : List ℕ) (p : PartWord) → part cs ≡ Some p → valid_path p.path ≡ true
part-good cs p e = of_pieces (split_at 58 cs) e
  where
    of_pieces : (ws : List (List ℕ)) → part_of ws ≡ Some p → valid_path p.path ≡ true
    of_pieces [] f = absurd (none-some p f)
    of_pieces (a ∷ []) f = absurd (none-some p f)
    of_pieces (a ∷ b ∷ []) f = absurd (none-some p f)
    of_pieces (a ∷ b ∷ c ∷ []) f = go (path_of a) refl (kind_word b) (order_word c) f
      where
        go : (o : Option Path) → path_of a ≡ o → (k : Option (Option _)) (d : Option _)
            → option_and_then (λ x. option_and_then (λ y. option_map (λ z. record { path = x; kind = y; order = z }) d) k) o ≡ Some p → valid_path p.path ≡ true
        go None is k d g = absurd (none-some p g)
        go (Some x) is None d g = absurd (none-some p g)
        go (Some x) is (Some y) None g = absurd (none-some p g)
        go (Some x) is (Some y) (Some z) g = subst (λ (q : PartWord). valid_path q.path ≡ true) (some-same _ p g) (path-good a x is)
    of_pieces (a ∷ b ∷ c ∷ d ∷ ws) f = absurd (none-some p f)

gives-parts : Gives (λ ps. parts_fit ps ≡ true) (several 4 part)
gives-parts cs ps rest e = let k = several-good (λ p. valid_path p.path) 4 part part-good cs ps rest e in grind (arith, k.0, k.1, k.2)

gives-distinct : Gives (λ names. (list_all is_identifier names ≡ true) × (all_apart same_name names ≡ true)) distinct
gives-distinct cs names rest e = go (several 140_000 symbol cs) refl e
  where
    test : (xs more : List _) (b : Bool) → all_apart same_name xs ≡ b → ◌≡◌ {A = Result (List (List ℕ) × List ℕ) Refusal} (if b then Ok (xs, more) else Err NotTheForm) (Ok (names, rest))
        → (xs ≡ names) × (all_apart same_name names ≡ true)
    test xs more true is f = let same = ok-first xs names more rest f in (same, subst (λ ys. all_apart same_name ys ≡ true) same is)
    test xs more false is f = cc

    go : (o : Result (List (List ℕ) × List ℕ) Refusal) → several 140_000 symbol cs ≡ o → if_distinct o ≡ Ok (names, rest) → (list_all is_identifier names ≡ true) × (all_apart same_name names ≡ true)
    go (Err r) is f = cc
    go (Ok (xs, more)) is f =
        let k = test xs more (all_apart same_name xs) refl f in
        let all = several-good is_identifier 140_000 symbol (λ cs a g. only-passes is_identifier cs a g) cs xs more is in
        (subst (λ ys. list_all is_identifier ys ≡ true) k.0 all.0, k.1)

-- ---- rows

-- a command has the form of its words
abbrev Form : Command → Type 0
Form c = has_form c ≡ true

-- a command that waits for a graph has the form with each graph within the limits
abbrev FormWith : (RawGraph → Command) → Type 0
FormWith f = (g : RawGraph) → within_limits g ≡ true → has_form (f g) ≡ true

abbrev pub Good : Parsed → Type 0
Good (ready (Ok c)) = Form c
Good (ready (Err r)) = ⊤
Good (literal text f) = FormWith f
Good (stream digits f) = FormWith f
Good (bytes digits f) = (bs : List ℕ) → Form (f bs)

ended-good : (o : Result (Command × List ℕ) Refusal) → ((c : Command) (rest : List ℕ) → o ≡ Ok (c, rest) → Form c) → Good (ended o)
ended-good (Err r) h = tt
ended-good (Ok (c, rest)) h = go (length (Rattle.newt_spec_script.specs.Words.trimmed rest) == 0)
  where
    go : (b : Bool) → Good (if b then ready (Ok c) else ready (Err NotTheForm))
    go true = h c rest refl
    go false = tt

literal-good : (o : Result ((RawGraph → Command) × List ℕ) Refusal) → ((f : RawGraph → Command) (rest : List ℕ) → o ≡ Ok (f, rest) → FormWith f) → Good (with_literal o)
literal-good (Err r) h = tt
literal-good (Ok (f, rest)) h = go (length (Rattle.newt_spec_script.specs.Words.trimmed rest) == 0)
  where
    go : (b : Bool) → Good (if b then ready (Err NotTheForm) else literal (Rattle.newt_spec_script.specs.Words.trimmed rest) f)
    go true = tt
    go false = h f rest refl

stream-good : (o : Result ((RawGraph → Command) × List ℕ) Refusal) → ((f : RawGraph → Command) (rest : List ℕ) → o ≡ Ok (f, rest) → FormWith f) → Good (with_stream o)
stream-good (Err r) h = tt
stream-good (Ok (f, rest)) h = h f rest refl

bytes-good : (o : Result ((List ℕ → Command) × List ℕ) Refusal) → ((f : List ℕ → Command) (rest : List ℕ) → o ≡ Ok (f, rest) → (bs : List ℕ) → Form (f bs)) → Good (with_bytes o)
bytes-good (Err r) h = tt
bytes-good (Ok (f, rest)) h = h f rest refl

row-whole : (reader : Reader Command) → Gives Form reader → (cs : List ℕ) → Good (whole reader cs)
row-whole reader h cs = ended-good (reader cs) (λ c rest e. h cs c rest e)

row-literal : (reader : Reader (RawGraph → Command)) → Gives FormWith reader → (cs : List ℕ) → Good (and_literal reader cs)
row-literal reader h cs = literal-good (reader cs) (λ f rest e. h cs f rest e)

row-stream : (reader : Reader (RawGraph → Command)) → Gives FormWith reader → (cs : List ℕ) → Good (and_stream reader cs)
row-stream reader h cs = stream-good (reader cs) (λ f rest e. h cs f rest e)

gives-alone : {A : Type 0} (Q : A → Type 0) (a : A) → Q a → Gives Q (alone a)
gives-alone Q a h cs x rest e = subst Q (ok-first a x cs rest e) h

row-bytes : (reader : Reader (List ℕ → Command)) → Gives (λ f. (bs : List ℕ) → Form (f bs)) reader → (cs : List ℕ) → Good (and_bytes reader cs)
row-bytes reader h cs = bytes-good (reader cs) (λ f rest e. h cs f rest e)

or-row : (a b : Parsed) → Good a → Good b → Good (or_row a b)
or-row (ready (Ok c)) b h k = h
or-row (ready (Err r)) b h k = k
or-row (literal text f) b h k = k
or-row (stream digits f) b h k = k
or-row (bytes digits f) b h k = k

tags-form : (u : ℕ) (s : List ℕ) (path : Path) (names : List (List ℕ)) → valid_path path ≡ true → (list_all is_identifier names ≡ true) × (all_apart same_name names ≡ true) → Form (command.SetTags u s path names)
unfolding has_form
tags-form u s path names h k = grind (arith, h, k.0, k.1)

format-form : (u : ℕ) (n : List ℕ) (g : ℕ) → is_name n ≡ true → nat_le g 536_870_911 ≡ true → Form (command.Format u n g)
unfolding has_form
format-form u n g h k = grind (arith, h, k)

tags-good : (cs : List ℕ) → Good (tags_row cs)
unfolding has_form
tags-good cs = or-row (whole (of2 unit name command.Tags) cs) (whole (of4 unit name (word path_of) distinct command.SetTags) cs)
    (row-whole (of2 unit name command.Tags) (all-2 Form unit name command.Tags (λ u s. refl)) cs)
    (row-whole (of4 unit name (word path_of) distinct command.SetTags)
    (gives-4 Form (λ u. ⊤) (λ s. ⊤) (λ p. valid_path p ≡ true) (λ names. (list_all is_identifier names ≡ true) × (all_apart same_name names ≡ true))
    unit name (word path_of) distinct command.SetTags (gives-any unit) (gives-any name) gives-path gives-distinct (λ u s p names _ _ h k. tags-form u s p names h k)) cs)

info-good : (cs : List ℕ) → Good (info_row cs)
unfolding has_form
info-good cs = or-row (whole (of2 unit name command.Info) cs) (and_literal (of2 unit name (λ u s g. command.SetInfo u s g)) cs)
    (row-whole (of2 unit name command.Info) (all-2 Form unit name command.Info (λ u s. refl)) cs)
    (row-literal (of2 unit name (λ u s g. command.SetInfo u s g)) (all-2 FormWith unit name (λ u s g. command.SetInfo u s g) (λ u s g h. h)) cs)

query-good : (cs : List ℕ) → Good (query_row cs)
unfolding has_form
query-good cs = go (word star cs)
  where
    go : (o : Result (ℕ × List ℕ) Refusal) → Good (query_by o cs)
    go (Ok (n, rest)) = row-literal (of1 name (λ s g. command.QueryAll s g)) (all-1 FormWith name (λ s g. command.QueryAll s g) (λ s g h. refl)) rest
    go (Err r) = row-literal (of2 unit name (λ u s g. command.Query u s g)) (all-2 FormWith unit name (λ u s g. command.Query u s g) (λ u s g h. refl)) cs

rows-good : Each (λ (r : Row). (cs : List ℕ) → Good (r.1 cs)) rows
unfolding has_form
rows-good = (
  row-stream (alone command.Nsof) (gives-alone FormWith command.Nsof (λ g h. refl)),
  (
    row-literal (alone command.Lit) (gives-alone FormWith command.Lit (λ g h. refl)),
    (
      row-whole (of1 number command.Time) (all-1 Form number command.Time (λ t. refl)),
      (
        row-whole (of3 unit name sig command.Format) (gives-3 Form (λ u. ⊤) (λ n. is_name n ≡ true) (λ n. nat_le n 536_870_911 ≡ true) unit name sig command.Format (gives-any unit) gives-name gives-sig (λ u n g _ h k. format-form u n g h k)),
        (
          row-whole (of1 unit command.Mount) (all-1 Form unit command.Mount (λ u. refl)),
          (
            row-whole (of1 unit command.Unmount) (all-1 Form unit command.Unmount (λ u. refl)),
            (
              row-whole (alone command.Stores) (gives-alone Form command.Stores refl),
              (
                row-whole (of1 unit command.Default) (all-1 Form unit command.Default (λ u. refl)),
                (
                  row-whole (of2 unit name command.Soup) (gives-2 Form (λ u. ⊤) (λ n. is_name n ≡ true) unit name command.Soup (gives-any unit) gives-name (λ u n _ h. h)),
                  (
                    row-whole (of1 unit command.Soups) (all-1 Form unit command.Soups (λ u. refl)),
                    (
                      row-whole (of2 unit name command.Drop) (all-2 Form unit name command.Drop (λ u s. refl)),
                      (
                        row-whole (of3 unit name (several 4 part) command.Index) (gives-3 Form (λ u. ⊤) (λ s. ⊤) (λ ps. parts_fit ps ≡ true) unit name (several 4 part) command.Index (gives-any unit) (gives-any name) gives-parts (λ u s ps _ _ h. h)),
                        (
                          row-whole (of3 unit name (several 4 path_of) command.Unindex) (all-3 Form unit name (several 4 path_of) command.Unindex (λ u s ps. refl)),
                          (
                            row-whole (of2 unit name command.Indexes) (all-2 Form unit name command.Indexes (λ u s. refl)),
                            (
                              tags-good,
                              (
                                info-good,
                                (
                                  row-literal (of2 unit name (λ u s g. command.Add u s g)) (all-2 FormWith unit name (λ u s g. command.Add u s g) (λ u s g h. h)),
                                  (
                                    row-stream (of2 unit name (λ u s g. command.Addx u s g)) (all-2 FormWith unit name (λ u s g. command.Addx u s g) (λ u s g h. h)),
                                    (
                                      row-literal (of1 name (λ s g. command.Addu s g)) (all-1 FormWith name (λ s g. command.Addu s g) (λ s g h. h)),
                                      (
                                        row-whole (of3 unit name number command.Get) (all-3 Form unit name number command.Get (λ u s n. refl)),
                                        (
                                          row-whole (of3 unit name number command.Getx) (all-3 Form unit name number command.Getx (λ u s n. refl)),
                                          (
                                            row-literal (of4 unit name number (word path_of) (λ u s n p g. command.Set u s n p g)) (all-4 FormWith unit name number (word path_of) (λ u s n p g. command.Set u s n p g) (λ u s n p g h. refl)),
                                            (
                                              row-literal (of3 unit name number (λ u s n g. command.Change u s n g)) (all-3 FormWith unit name number (λ u s n g. command.Change u s n g) (λ u s n g h. h)),
                                              (
                                                row-whole (of3 unit name number command.Remove) (all-3 Form unit name number command.Remove (λ u s n. refl)),
                                                (
                                                  row-whole (of5 unit name number unit name command.Copy) (all-5 Form unit name number unit name command.Copy (λ u s n v t. refl)),
                                                  (
                                                    row-whole (of5 unit name number unit name command.Move) (all-5 Form unit name number unit name command.Move (λ u s n v t. refl)),
                                                    (
                                                      row-whole (of6 unit name number (word path_of) number len command.Vread) (all-6 Form unit name number (word path_of) number len command.Vread (λ u s n p a l. refl)),
                                                      (
                                                        row-bytes (of5 unit name number (word path_of) number (λ u s n p a b. command.Vwrite u s n p a b)) (all-5 (λ f. (bs : List ℕ) → Form (f bs)) unit name number (word path_of) number (λ u s n p a b. command.Vwrite u s n p a b) (λ u s n p a b. refl)),
                                                        (
                                                          row-whole (of3 unit name number command.Alias) (all-3 Form unit name number command.Alias (λ u s n. refl)),
                                                          (
                                                            row-literal (alone command.Resolve) (gives-alone FormWith command.Resolve (λ g h. refl)),
                                                            (
                                                              query-good,
                                                              (
                                                                row-whole (of1 cursor command.Entry) (all-1 Form cursor command.Entry (λ c. refl)),
                                                                (
                                                                  row-whole (of1 cursor command.Next) (all-1 Form cursor command.Next (λ c. refl)),
                                                                  (
                                                                    row-whole (of1 cursor command.Prev) (all-1 Form cursor command.Prev (λ c. refl)),
                                                                    (
                                                                      row-whole (of1 cursor command.Reset) (all-1 Form cursor command.Reset (λ c. refl)),
                                                                      (
                                                                        row-whole (of1 cursor command.End) (all-1 Form cursor command.End (λ c. refl)),
                                                                        (
                                                                          row-whole (of2 cursor (word signed_value) command.Moveby) (all-2 Form cursor (word signed_value) command.Moveby (λ c k. refl)),
                                                                          (
                                                                            row-whole (of3 cursor unit number command.Goto) (all-3 Form cursor unit number command.Goto (λ c u n. refl)),
                                                                            (
                                                                              row-literal (of1 cursor (λ c g. command.Gotokey c g)) (all-1 FormWith cursor (λ c g. command.Gotokey c g) (λ c g h. refl)),
                                                                              (
                                                                                row-whole (of1 cursor command.Count) (all-1 Form cursor command.Count (λ c. refl)),
                                                                                (
                                                                                  row-whole (of1 cursor command.Which) (all-1 Form cursor command.Which (λ c. refl)),
                                                                                  (
                                                                                    row-whole (of1 cursor command.Clone) (all-1 Form cursor command.Clone (λ c. refl)),
                                                                                    (
                                                                                      row-whole (of1 cursor command.Close) (all-1 Form cursor command.Close (λ c. refl)),
                                                                                      (
                                                                                        row-whole (of2 name most command.Watch) (gives-2 Form (λ s. ⊤) CanKeep name most command.Watch (gives-any name) gives-most (λ s n _ h. h)),
                                                                                        (
                                                                                          row-whole (of1 watch command.Notes) (all-1 Form watch command.Notes (λ n. refl)),
                                                                                          (
                                                                                            row-whole (of1 watch command.Unwatch) (all-1 Form watch command.Unwatch (λ n. refl)),
                                                                                            (
                                                                                              row-whole (of3 unit name number command.Open) (all-3 Form unit name number command.Open (λ u s n. refl)),
                                                                                              (
                                                                                                row-whole (of1 copy command.Draft) (all-1 Form copy command.Draft (λ n. refl)),
                                                                                                (
                                                                                                  row-literal (of2 copy (word path_of) (λ n p g. command.Edit n p g)) (all-2 FormWith copy (word path_of) (λ n p g. command.Edit n p g) (λ n p g h. refl)),
                                                                                                  (
                                                                                                    row-whole (of1 copy command.Save) (all-1 Form copy command.Save (λ n. refl)),
                                                                                                    (
                                                                                                      row-whole (of1 copy command.Revert) (all-1 Form copy command.Revert (λ n. refl)),
                                                                                                      (
                                                                                                        row-whole (of1 copy command.Discard) (all-1 Form copy command.Discard (λ n. refl)),
                                                                                                        (
                                                                                                          row-whole (alone command.Quit) (gives-alone Form command.Quit refl),
                                                                                                          tt,
                                                                                                        ),
                                                                                                      ),
                                                                                                    ),
                                                                                                  ),
                                                                                                ),
                                                                                              ),
                                                                                            ),
                                                                                          ),
                                                                                        ),
                                                                                      ),
                                                                                    ),
                                                                                  ),
                                                                                ),
                                                                              ),
                                                                            ),
                                                                          ),
                                                                        ),
                                                                      ),
                                                                    ),
                                                                  ),
                                                                ),
                                                              ),
                                                            ),
                                                          ),
                                                        ),
                                                      ),
                                                    ),
                                                  ),
                                                ),
                                              ),
                                            ),
                                          ),
                                        ),
                                      ),
                                    ),
                                  ),
                                ),
                              ),
                            ),
                          ),
                        ),
                      ),
                    ),
                  ),
                ),
              ),
            ),
          ),
        ),
      ),
    ),
  ),
)

row-good : (w rest : List ℕ) → Good (row_of w rest)
row-good w rest = go (find (λ (r : Row). bytes_eq r.0 w) rows) refl
  where
    go : (o : Option Row) → find (λ (r : Row). bytes_eq r.0 w) rows ≡ o → Good (read_row o rest)
    go None e = tt
    go (Some r) e = each-at (λ (r : Row). (cs : List ℕ) → Good (r.1 cs)) rows r rows-good (find-passes (λ (r : Row). bytes_eq r.0 w) rows r e).1 rest

pub line-good : (line : List ℕ) (p : Parsed) → parsed line ≡ Some p → Good p
line-good line p e = go (says_nothing line) e
  where
    short : (b : Bool) → Good (within_length b line)
    short true = tt
    short false = row-good (first_word line).0 (first_word line).1

    go : (b : Bool) → if_said b line ≡ Some p → Good p
    go true f = absurd (none-some p f)
    go false f = subst Good (some-same (within_length (nat_lt 140_000 (length line)) line) p f) (short (nat_lt 140_000 (length line)))

-- ---- items

same-command : (a b : Command) → ◌≡◌ {A = Item} (Ok a) (Ok b) → a ≡ b
same-command a b e = cc

-- readings that give graphs within the limits
pub item-form : (rs : Readers) → ((text : List ℕ) (g : RawGraph) → rs.literal_of text ≡ Some g → within_limits g ≡ true) → ((bs : List ℕ) (g : RawGraph) → rs.stream_of bs ≡ Ok g → within_limits g ≡ true)
    → (p : Parsed) → Good p → (c : Command) → item_of rs p ≡ Ok c → has_form c ≡ true
item-form rs lit str (ready (Ok d)) good c e = subst Form (same-command d c e) good
item-form rs lit str (ready (Err r)) good c e = cc
item-form rs lit str (literal text f) good c e = go (rs.literal_of text) refl e
  where
    go : (o : Option RawGraph) → rs.literal_of text ≡ o → literal_item o f ≡ Ok c → has_form c ≡ true
    go None is k = cc
    go (Some g) is k = subst Form (same-command (f g) c k) (good g (lit text g is))
item-form rs lit str (stream digits f) good c e = go (hex_bytes digits) e
  where
    read : (bs : List ℕ) (o : Result RawGraph Refusal) → rs.stream_of bs ≡ o → stream_item o f ≡ Ok c → has_form c ≡ true
    read bs (Err r) is k = cc
    read bs (Ok g) is k = subst Form (same-command (f g) c k) (good g (str bs g is))

    go : (o : Option (List ℕ)) → hex_item rs o f ≡ Ok c → has_form c ≡ true
    go None k = cc
    go (Some bs) k = read bs (rs.stream_of bs) refl k
item-form rs lit str (bytes digits f) good c e = go (hex_bytes digits) e
  where
    go : (o : Option (List ℕ)) → bytes_item o f ≡ Ok c → has_form c ≡ true
    go None k = cc
    go (Some bs) k = subst Form (same-command (f bs) c k) (good bs)
