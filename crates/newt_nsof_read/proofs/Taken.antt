-- What is read takes its text from the front and adds its nodes: symbols, precedents, labels, and
-- lists of them.
use Rattle.std.proofs.Common.{◌≡◌, ℕ, zero, suc, ◌≤◌, true, cond, ltb, eqb, List, [], ◌∷◌, ◌++◌, length, Option, Some, None, refl, sym, ap, subst, ◌∙◌, append_assoc, arith, inl, inr}
use Rattle.std.specs.Prelude.{slice_get}
use Rattle.std.proofs.lemmas.Bool.{ltb-true, eqb-true}
use Rattle.std.proofs.lemmas.List.{append-nil, length_push}
use Rattle.newt_graph.specs.declared.node.Node.{Node}
use Rattle.newt_graph.specs.declared.node.Node.TheVariants.{Symbol}
use Rattle.newt_graph.specs.Steps.{◌>>=◌}
use Rattle.newt_graph.specs.Draft.{find_alike}
use Rattle.newt_spec_nsof.specs.Text.{Interned, InternedEach, SymbolText, Again, Label, Labels}
use Rattle.newt_graph.proofs.Options.{bind_some, chosen, provided, some_is}
use Rattle.newt_graph.proofs.Elements.{get_append, get_seam}
use Rattle.newt_graph.proofs.Drafts.{none_alike, alike_found}
use Rattle.newt_nsof_read.specs.declared.tag.Tag.{Tag}
use Rattle.newt_nsof_read.specs.declared.tag.Tag.TheVariants as tags
use Rattle.newt_nsof_read.specs.Met.{Met}
use Rattle.newt_nsof_read.specs.Reading.{Reader, count_at, name_at, push, add, known, numbering, intern, intern_each, numbered_at, symbol_at, symbol_only, is_symbol_at, is_other, tag_of, label_by, label_at, many_at}
use Rattle.newt_nsof_read.proofs.Fields.{IsBytes, IsBytes-rest, Takes, Takes-then, Takes-after, count_takes, name_takes}
use Rattle.newt_nsof_read.proofs.Names.{names, names-append, same_length, IsAlike-moved, IsSymbol-moved, is_symbol_tells}

-- how a text spells a value after some nodes and numbered objects: the nodes that it adds, and the
-- numbered objects after it
abbrev pub Spelling : Type 0 → Type 1
Spelling A = List Node → List ℕ → List ℕ → A → List Node → List ℕ → Type 0

-- what was read after what was met, by whatever name open frames went
pub record Taken {A : Type 0} (spells : Spelling A) (met : Met) (bytes : List ℕ) (found : A × Met × List ℕ) : Type 0 where
  pub text : List ℕ
  pub new : List Node
  pub takes : Takes bytes text found.2
  pub grown : found.1.nodes ≡ met.nodes ++ new
  pub few : length met.nodes ≤ 65535 → length found.1.nodes ≤ 65535
  pub spelled : (before : List Node) → names met.nodes ≡ names before → spells before met.numbered text found.0 new found.1.numbered

abbrev pub IsSound : {A : Type 0} → Spelling A → Reader A → Type 0
IsSound {A} spells read = (met : Met) (bytes : List ℕ) (found : A × Met × List ℕ) → IsBytes bytes → read met bytes ≡ Some found → Taken spells met bytes found

-- ---- nodes that are added

pub record Added (met : Met) (node : Node) (found : ℕ × Met) : Type 0 where
  pub n : found.0 ≡ length met.nodes
  pub nodes : found.1.nodes ≡ met.nodes ++ node ∷ []
  pub numbered : found.1.numbered ≡ met.numbered ++ length met.nodes ∷ []
  pub few : length found.1.nodes ≤ 65535

-- a node that takes no number
record Pushed (met : Met) (node : Node) (found : ℕ × Met) : Type 0 where
  n : found.0 ≡ length met.nodes
  nodes : found.1.nodes ≡ met.nodes ++ node ∷ []
  numbered : found.1.numbered ≡ met.numbered
  few : length found.1.nodes ≤ 65535

push_pushes : (met : Met) (node : Node) (found : ℕ × Met) → push met node ≡ Some found → Pushed met node found
unfolding push
push_pushes met node found e =
    let p = provided (ltb (length met.nodes) 65535) _ found e in
    subst (Pushed met node) (some_is p.1) (record { n = refl; nodes = refl; numbered = refl; few = omega (arith, ltb-true _ _ p.0, length_push met.nodes node) })

pub add_adds : (met : Met) (node : Node) (found : ℕ × Met) → add met node ≡ Some found → Added met node found
unfolding add
add_adds met node found e =
    let a = bind_some (push met node) (λ found. Some (found.0, numbering found.1 found.0)) found e in
    let p = push_pushes met node a.0 a.1 in
    subst (Added met node) (some_is a.2) (record { n = p.n; nodes = p.nodes; numbered = rw (p.n, p.numbered) refl; few = p.few })

-- ---- symbols

-- a name that was met, and what it stands for
pub record Known (met : Met) (name : List ℕ) (found : ℕ × Met) : Type 0 where
  pub new : List Node
  pub grown : found.1.nodes ≡ met.nodes ++ new
  pub few : length met.nodes ≤ 65535 → length found.1.nodes ≤ 65535
  pub numbered : found.1.numbered ≡ met.numbered
  pub interned : (before : List Node) → names met.nodes ≡ names before → Interned before name found.0 new

known_old : (met : Met) (name : List ℕ) (k : ℕ) → find_alike name met.nodes ≡ Some k → Known met name (k, met)
known_old met name k e = record {
  new = [];
  grown = sym (append-nil met.nodes);
  few = λ h. h;
  numbered = refl;
  interned = λ before same. Interned.alike (IsAlike-moved met.nodes before k name same (alike_found name met.nodes k e));
}

known_new : (met : Met) (name : List ℕ) (found : ℕ × Met) → find_alike name met.nodes ≡ None → push met (Symbol name) ≡ Some found → Known met name found
known_new met name found none e =
    let p = push_pushes met (Symbol name) found e in
    record {
      new = Symbol name ∷ [];
      grown = p.nodes;
      few = λ h. p.few;
      numbered = p.numbered;
      interned = λ before same.
          let len : length before ≡ found.0 = sym (p.n ∙ same_length met.nodes before same) in
          let first : Interned before name (length before) (Symbol name ∷ []) = Interned.first (λ k alike. none_alike met.nodes name none k (IsAlike-moved before met.nodes k name (sym same) alike)) in
          subst (λ (n : ℕ). Interned before name n (Symbol name ∷ [])) len first;
    }

interned : (met : Met) (name : List ℕ) (found : ℕ × Met) → intern met name ≡ Some found → Known met name found
unfolding intern
interned met name found e = go (find_alike name met.nodes) refl e
  where
    go : (o : Option ℕ) → find_alike name met.nodes ≡ o → known met name o ≡ Some found → Known met name found
    go (Some k) f e = subst (Known met name) (some_is e) (known_old met name k f)
    go None f e = known_new met name found f e

-- the same for names one after another
pub record KnownEach (met : Met) (these : List (List ℕ)) (found : List ℕ × Met) : Type 0 where
  pub new : List Node
  pub grown : found.1.nodes ≡ met.nodes ++ new
  pub few : length met.nodes ≤ 65535 → length found.1.nodes ≤ 65535
  pub numbered : found.1.numbered ≡ met.numbered
  pub interned : (before : List Node) → names met.nodes ≡ names before → InternedEach before these found.0 new

pub interned_each : (these : List (List ℕ)) (met : Met) (found : List ℕ × Met) → intern_each met these ≡ Some found → KnownEach met these found
unfolding intern_each
interned_each [] met found e = subst (KnownEach met []) (some_is e) (record { new = []; grown = sym (append-nil met.nodes); few = λ h. h; numbered = refl; interned = λ before same. InternedEach.none })
interned_each (name ∷ these) met found e =
    let a = bind_some (intern met name) _ found e in
    let b = bind_some (intern_each a.0.1 these) _ found a.2 in
    let first = interned met name a.0 a.1 in
    let others = interned_each these a.0.1 b.0 b.1 in
    subst (KnownEach met (name ∷ these)) (some_is b.2) (record {
      new = first.new ++ others.new;
      grown = others.grown ∙ ap (λ (x : List Node). x ++ others.new) first.grown ∙ append_assoc met.nodes first.new others.new;
      few = λ h. others.few (first.few h);
      numbered = others.numbered ∙ first.numbered;
      interned = λ before same. InternedEach.more (first.interned before same) (others.interned (before ++ first.new) (ap names first.grown ∙ names-append met.nodes before first.new same));
    })

-- the text after a tag
abbrev pub with_tag : {A : Type 0} → ℕ → Spelling A → Spelling A
with_tag tag spells before numbered text value new after = spells before numbered (tag ∷ text) value new after

pub symbol_sound : IsSound (with_tag 7 SymbolText) symbol_at
unfolding symbol_at
symbol_sound met bytes found fits e =
    let a = bind_some (name_at bytes) (λ name. intern met name.0 >>= λ found. Some (found.0, numbering found.1 found.0, name.1)) found e in
    let name = a.0 in
    let b = bind_some (intern met name.0) (λ found. Some (found.0, numbering found.1 found.0, name.1)) found a.2 in
    let t = name_takes bytes name fits a.1 in
    let k = interned met name.0 b.0 b.1 in
    let made : Taken (with_tag 7 SymbolText) met bytes (b.0.0, numbering b.0.1 b.0.0, name.1) = record {
      text = t.0 ++ name.0;
      new = k.new;
      takes = t.3;
      grown = k.grown;
      few = k.few;
      spelled = λ before same. rw k.numbered (SymbolText.symbol t.1 t.2 (k.interned before same));
    } in
    subst (Taken (with_tag 7 SymbolText) met bytes) (some_is b.2) made

-- ---- numbered objects

unfoldable pub NumberedTaken : Met → List ℕ → ℕ × List ℕ → Type 0
NumberedTaken met bytes found = (text : List ℕ) × Again met.numbered (9 ∷ text) found.0 × Takes bytes text found.1

pub numbered_takes : (met : Met) (bytes : List ℕ) (found : ℕ × List ℕ) → IsBytes bytes → numbered_at met bytes ≡ Some found → NumberedTaken met bytes found
unfolding numbered_at NumberedTaken
numbered_takes met bytes found fits e =
    let a = bind_some (count_at bytes) (λ place. slice_get met.numbered place.0 >>= λ k. Some (k, place.1)) found e in
    let b = bind_some (slice_get met.numbered a.0.0) (λ k. Some (k, a.0.1)) found a.2 in
    let t = count_takes bytes a.0 fits a.1 in
    subst (λ (f : ℕ × List ℕ). (text : List ℕ) × Again met.numbered (9 ∷ text) f.0 × Takes bytes text f.1) (some_is b.2) (t.0, Again.again t.1 b.1, t.2)

-- ---- tags

-- the byte of a tag
unfoldable pub byte_of : Tag → ℕ
byte_of tags.Word = 0
byte_of tags.Character = 1
byte_of tags.WideCharacter = 2
byte_of tags.Binary = 3
byte_of tags.String = 8
byte_of tags.Array = 4
byte_of tags.PlainArray = 5
byte_of tags.Frame = 6
byte_of tags.Symbol = 7
byte_of tags.Again = 9
byte_of tags.Nil = 10
byte_of tags.Rectangle = 11
byte_of tags.Large = 12

pub tag_tells : (b : ℕ) (tag : Tag) → tag_of b ≡ Some tag → b ≡ byte_of tag
unfolding tag_of byte_of
tag_tells b tag e =
    step b 0 tags.Word _ tag refl e (λ e1.
    step b 1 tags.Character _ tag refl e1 (λ e2.
    step b 2 tags.WideCharacter _ tag refl e2 (λ e6.
    step b 3 tags.Binary _ tag refl e6 (λ e4.
    step b 4 tags.Array _ tag refl e4 (λ e5.
    step b 5 tags.PlainArray _ tag refl e5 (λ e6.
    step b 6 tags.Frame _ tag refl e6 (λ e7.
    step b 7 tags.Symbol _ tag refl e7 (λ e9.
    step b 8 tags.String _ tag refl e9 (λ e8.
    step b 9 tags.Again _ tag refl e8 (λ e10.
    step b 10 tags.Nil _ tag refl e10 (λ e12.
    step b 11 tags.Rectangle _ tag refl e12 (λ e11.
    step b 12 tags.Large None tag refl e11 (λ none. absurd cc)))))))))))))
  where
    step : (b n : ℕ) (this : Tag) (others : Option Tag) (tag : Tag) → byte_of this ≡ n → cond (eqb b n) (Some this) others ≡ Some tag → (others ≡ Some tag → b ≡ byte_of tag) → b ≡ byte_of tag
    step b n this others tag is e more =
        elim (chosen (eqb b n) (Some this) others (Some tag) e) [
          | inl p ↦ eqb-true b n p.0 ∙ sym is ∙ ap byte_of (some_is {x = this} {y = tag} p.1)
          | inr p ↦ more p.1
        ]

-- ---- labels

again_taken : (met : Met) (rest : List ℕ) (found : ℕ × List ℕ) → is_symbol_at met found.0 ≡ true → NumberedTaken met rest found → Taken Label met (9 ∷ rest) (found.0, met, found.1)
unfolding NumberedTaken
again_taken met rest found is t = record {
  text = 9 ∷ t.0;
  new = [];
  takes = Takes-after 9 rest t.0 found.1 t.2;
  grown = sym (append-nil met.nodes);
  few = λ h. h;
  spelled = λ before same. Label.again t.1 (IsSymbol-moved met.nodes before found.0 same (is_symbol_tells met.nodes found.0 is));
}

pub at_tag : (tag b : ℕ) {A : Type 0} {spells : Spelling A} {met : Met} (rest : List ℕ) (found : A × Met × List ℕ) → b ≡ tag → Taken spells met (tag ∷ rest) found → Taken spells met (b ∷ rest) found
at_tag tag b {A} {spells} {met} rest found is t = subst (λ (x : ℕ). Taken spells met (x ∷ rest) found) (sym is) t

label_by_sound : (met : Met) (rest : List ℕ) (tag : Tag) (b : ℕ) (found : ℕ × Met × List ℕ) → IsBytes rest → tag_of b ≡ Some tag → label_by met rest tag ≡ Some found → Taken Label met (b ∷ rest) found
unfolding byte_of
label_by_sound met rest tags.Symbol b found fits is e =
    let t = symbol_sound met rest found fits e in
    at_tag 7 b rest found (tag_tells b tags.Symbol is) (record {
      text = 7 ∷ t.text;
      new = t.new;
      takes = Takes-after 7 rest t.text found.2 t.takes;
      grown = t.grown;
      few = t.few;
      spelled = λ before same. Label.symbol (t.spelled before same);
    })
label_by_sound met rest tags.Again b found fits is e =
    let a = bind_some (numbered_at met rest) (symbol_only met) found e in
    let p = provided (is_symbol_at met a.0.0) _ found a.2 in
    let t = numbered_takes met rest a.0 fits a.1 in
    at_tag 9 b rest found (tag_tells b tags.Again is) (subst (Taken Label met (9 ∷ rest)) (some_is p.1) (again_taken met rest a.0 p.0 t))
label_by_sound met rest tags.Word b found fits is e = absurd cc
label_by_sound met rest tags.Character b found fits is e = absurd cc
label_by_sound met rest tags.WideCharacter b found fits is e = absurd cc
label_by_sound met rest tags.Binary b found fits is e = absurd cc
label_by_sound met rest tags.String b found fits is e = absurd cc
label_by_sound met rest tags.Array b found fits is e = absurd cc
label_by_sound met rest tags.PlainArray b found fits is e = absurd cc
label_by_sound met rest tags.Frame b found fits is e = absurd cc
label_by_sound met rest tags.Nil b found fits is e = absurd cc
label_by_sound met rest tags.Rectangle b found fits is e = absurd cc
label_by_sound met rest tags.Large b found fits is e = absurd cc

pub label_sound : IsSound Label label_at
unfolding label_at
label_sound met [] found fits e = absurd cc
label_sound met (b ∷ rest) found fits e =
    let a = bind_some (tag_of b) (label_by met rest) found e in
    label_by_sound met rest a.0 b found (IsBytes-rest b rest fits) a.1 a.2

-- ---- one after another

-- how a list is spelled, from how each of its things is
pub record Lists {A : Type 0} (one : Spelling A) (many : Spelling (List A)) : Type 0 where
  pub none : (before : List Node) (numbered : List ℕ) → many before numbered [] [] [] numbered
  pub more : (before : List Node) (numbered first : List ℕ) (value : A) (new : List Node) (then others : List ℕ) (values : List A) (news : List Node) (after : List ℕ)
      → one before numbered first value new then → many (before ++ new) then others values news after → many before numbered (first ++ others) (value ∷ values) (new ++ news) after

pub many_sound : {A : Type 0} {one : Spelling A} {many : Spelling (List A)} (lists : Lists one many) (read : Reader A) → IsSound one read → (n : ℕ) → IsSound many (many_at read n)
unfolding many_at
many_sound {A} {one} {many} lists read sound zero met bytes found fits e =
    subst (Taken many met bytes) (some_is e) (record {
      text = [];
      new = [];
      takes = record { parts = refl; rest_fits = fits };
      grown = sym (append-nil met.nodes);
      few = λ h. h;
      spelled = λ before same. lists.none before met.numbered;
    })
many_sound {A} {one} {many} lists read sound (suc n) met bytes found fits e =
    let a = bind_some (read met bytes) (λ first. many_at read n first.1 first.2 >>= λ others. Some (first.0 ∷ others.0, others.1, others.2)) found e in
    let b = bind_some (many_at read n a.0.1 a.0.2) (λ others. Some (a.0.0 ∷ others.0, others.1, others.2)) found a.2 in
    let first = sound met bytes a.0 fits a.1 in
    let others = many_sound lists read sound n a.0.1 a.0.2 b.0 first.takes.rest_fits b.1 in
    let made : Taken many met bytes (a.0.0 ∷ b.0.0, b.0.1, b.0.2) = record {
      text = first.text ++ others.text;
      new = first.new ++ others.new;
      takes = Takes-then bytes first.text a.0.2 others.text b.0.2 first.takes others.takes;
      grown = others.grown ∙ ap (λ (x : List Node). x ++ others.new) first.grown ∙ append_assoc met.nodes first.new others.new;
      few = λ h. others.few (first.few h);
      spelled = λ before same. lists.more before met.numbered first.text a.0.0 first.new a.0.1.numbered others.text b.0.0 others.new b.0.1.numbered
          (first.spelled before same)
          (others.spelled (before ++ first.new) (ap names first.grown ∙ names-append met.nodes before first.new same));
    } in
    subst (Taken many met bytes) (some_is b.2) made

pub many_length : {A : Type 0} (read : Reader A) (n : ℕ) (met : Met) (bytes : List ℕ) (found : List A × Met × List ℕ) → many_at read n met bytes ≡ Some found → length found.0 ≡ n
unfolding many_at
many_length read zero met bytes found e = ap (λ (f : List _ × Met × List ℕ). length f.0) (sym (some_is e))
many_length read (suc n) met bytes found e =
    let a = bind_some (read met bytes) (λ first. many_at read n first.1 first.2 >>= λ others. Some (first.0 ∷ others.0, others.1, others.2)) found e in
    let b = bind_some (many_at read n a.0.1 a.0.2) (λ others. Some (a.0.0 ∷ others.0, others.1, others.2)) found a.2 in
    ap (λ (f : List _ × Met × List ℕ). length f.0) (sym (some_is b.2)) ∙ ap suc (many_length read n a.0.1 a.0.2 b.0 b.1)

pub label_lists : Lists Label Labels
label_lists = record {
  none = λ before numbered. Labels.none;
  more = λ before numbered first value new then others values news after one many. Labels.more one many;
}

-- ---- nodes that stay

-- a node that was opened is still there when its parts have been read
pub stays_open : (met : Met) (node : Node) (opened : ℕ × Met) (new nodes : List Node) → Added met node opened → nodes ≡ opened.1.nodes ++ new → is_other (Some node) ≡ true → is_other (slice_get nodes opened.0) ≡ true
stays_open met node opened new nodes added grown other =
    let there : slice_get ((met.nodes ++ node ∷ []) ++ new) (length met.nodes) ≡ Some node = get_append (met.nodes ++ node ∷ []) new (length met.nodes) node (get_seam met.nodes node []) in
    rw (grown, added.nodes, added.n) (ap is_other there ∙ other)

pub label_within : (met : Met) (node : Node) (bytes : List ℕ) (count : ℕ × List ℕ) (opened : ℕ × Met) (label : ℕ × Met × List ℕ) → IsBytes bytes
    → count_at bytes ≡ Some count → add met node ≡ Some opened → label_at opened.1 count.1 ≡ Some label
    → is_other (Some node) ≡ true → is_other (slice_get label.1.nodes opened.0) ≡ true
label_within met node bytes count opened label fits counted adds labelled other =
    let t = count_takes bytes count fits counted in
    let l = label_sound opened.1 count.1 label t.2.rest_fits labelled in
    stays_open met node opened l.new label.1.nodes (add_adds met node opened adds) l.grown other

-- the same with no count
pub large_within : (met : Met) (node : Node) (bytes : List ℕ) (opened : ℕ × Met) (label : ℕ × Met × List ℕ) → IsBytes bytes
    → add met node ≡ Some opened → label_at opened.1 bytes ≡ Some label
    → is_other (Some node) ≡ true → is_other (slice_get label.1.nodes opened.0) ≡ true
large_within met node bytes opened label fits adds labelled other =
    let l = label_sound opened.1 bytes label fits labelled in
    stays_open met node opened l.new label.1.nodes (add_adds met node opened adds) l.grown other

pub rectangle_within : (met : Met) (node : Node) (these : List (List ℕ)) (opened : ℕ × Met) (tags : List ℕ × Met) → add met node ≡ Some opened → intern_each opened.1 these ≡ Some tags
    → is_other (Some node) ≡ true → is_other (slice_get tags.1.nodes opened.0) ≡ true
rectangle_within met node these opened tags adds tagged other =
    let t = interned_each these opened.1 tags tagged in
    stays_open met node opened t.new tags.1.nodes (add_adds met node opened adds) t.grown other
