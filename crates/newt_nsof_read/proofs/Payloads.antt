-- Strings, binaries, large binaries and small rectangles that are read are spelled so.
use Rattle.std.proofs.Common.{◌≡◌, ℕ, zero, suc, ◌+◌, ◌*◌, ◌/◌, ◌-◌, ◌%◌, ◌<◌, ◌≤◌, Bool, cond, ltb, leb, eqb, List, [], ◌∷◌, ◌++◌, length, take, drop, All, Some, None, refl, sym, ap, subst, ◌∙◌, append_assoc, arith}
use Rattle.std.specs.Prelude.{set, ◌&&◌}
use Rattle.std.proofs.lemmas.Bool.{ltb-false, leb-true, eqb-true, and_parts}
use Rattle.std.proofs.lemmas.List.{length-set, length-take, take-append-drop, get_or_default}
use Rattle.std.proofs.lemmas.List.Elements.{All-nil, All-cons}
use Rattle.std.proofs.Math.Seq.{set-append_seam}
use Rattle.newt_graph.specs.declared.node.Node.{Node}
use Rattle.newt_graph.specs.declared.node.Node.TheVariants.{Str, Binary, Large, Frame}
use Rattle.newt_graph.specs.declared.node.Ref.{Ref}
use Rattle.newt_graph.specs.declared.node.Ref.TheVariants as refs
use Rattle.newt_graph.specs.Graph.{IsText, IsData}
use Rattle.newt_graph.specs.Steps.{◌>>=◌}
use Rattle.newt_spec_nsof.specs.Text.{Count, units_text, sides, corners, Label, Object}
use Rattle.newt_nsof_read.specs.Met.{Met}
use Rattle.newt_nsof_read.specs.Reading.{count_at, add, intern_each, rectangle_at, label_at, many_at, filled, unit_at, is_text_count, after_zero, string_at, binary_at, large_data_at, large_at}
use Rattle.newt_graph.proofs.Options.{bind_some, unless, provided, some_is}
use Rattle.newt_nsof_read.proofs.Fields.{IsBytes, IsBytes-take, IsBytes-drop, Takes, Takes-then, count_takes}
use Rattle.newt_nsof_read.proofs.Larges.{large_takes}
use Rattle.newt_nsof_read.proofs.Names.{names, names-other, same_length}
use Rattle.newt_nsof_read.proofs.Taken.{Taken, IsSound, add_adds, interned_each, with_tag, label_sound}

-- ---- strings

-- what the units of a text were
record UnitsTaken (met : Met) (n : ℕ) (bytes : List ℕ) (found : List ℕ × Met × List ℕ) : Type 0 where
  takes : Takes bytes (units_text found.0) found.2
  each : All (λ u. u < 65536) found.0
  long : length found.0 ≡ n

unit_takes : (met : Met) (bytes : List ℕ) (found : ℕ × Met × List ℕ) → IsBytes bytes → unit_at met bytes ≡ Some found → Takes bytes (found.0 / 256 ∷ found.0 % 256 ∷ []) found.2 × (found.0 < 65536)
unit_takes met [] found fits e = absurd cc
unit_takes met (high ∷ []) found fits e = absurd cc
unit_takes met (high ∷ low ∷ rest) found fits e =
    let h : high < 256 = fits 0 in
    let l : low < 256 = fits 1 in
    let first : (256 * high + low) / 256 ≡ high = omega arith in
    let second : (256 * high + low) % 256 ≡ low = omega arith in
    subst (λ (f : ℕ × Met × List ℕ). Takes (high ∷ low ∷ rest) (f.0 / 256 ∷ f.0 % 256 ∷ []) f.2 × (f.0 < 65536)) (some_is e)
    (rw (first, second) (record { parts = refl; rest_fits = λ i. fits (suc (suc i)) }), omega arith)

units_take : (n : ℕ) (met : Met) (bytes : List ℕ) (found : List ℕ × Met × List ℕ) → IsBytes bytes → many_at unit_at n met bytes ≡ Some found → UnitsTaken met n bytes found
unfolding many_at
units_take zero met bytes found fits e =
    subst (UnitsTaken met 0 bytes) (some_is e) (record { takes = record { parts = refl; rest_fits = fits }; each = All-nil (λ u. u < 65536); long = refl })
units_take (suc n) met bytes found fits e =
    let a = bind_some (unit_at met bytes) (λ first. many_at unit_at n first.1 first.2 >>= λ others. Some (first.0 ∷ others.0, others.1, others.2)) found e in
    let b = bind_some (many_at unit_at n a.0.1 a.0.2) (λ others. Some (a.0.0 ∷ others.0, others.1, others.2)) found a.2 in
    let first = unit_takes met bytes a.0 fits a.1 in
    let others = units_take n a.0.1 a.0.2 b.0 first.0.rest_fits b.1 in
    subst (UnitsTaken met (suc n) bytes) (some_is b.2) (record {
      takes = Takes-then bytes (a.0.0 / 256 ∷ a.0.0 % 256 ∷ []) a.0.2 (units_text b.0.0) b.0.2 first.0 others.takes;
      each = All-cons (λ u. u < 65536) a.0.0 b.0.0 first.1 others.each;
      long = ap suc others.long;
    })

pub string_sound : (wide : Bool) (room : ℕ) → IsSound (with_tag 8 (Object wide room)) string_at
unfolding string_at
string_sound wide room met bytes found fits e =
    let a = bind_some (count_at bytes) _ found e in
    let b = bind_some (cond (is_text_count a.0.0) (many_at unit_at (a.0.0 / 2 - 1) met a.0.1) None) _ found a.2 in
    let c = bind_some (unit_at met b.0.2) _ found b.2 in
    let d = bind_some (after_zero c.0) _ found c.2 in
    let f = bind_some (add met (Str b.0.0)) (λ added. Some (refs.Node added.0, added.1, d.0)) found d.2 in
    let p = provided (is_text_count a.0.0) _ b.0 b.1 in
    let z = provided (eqb c.0.0 0) _ d.0 d.1 in
    let q = and_parts (eqb (a.0.0 % 2) 0 && leb 2 a.0.0) (leb a.0.0 1000000) p.0 in
    let r = and_parts (eqb (a.0.0 % 2) 0) (leb 2 a.0.0) q.0 in
    let even : a.0.0 % 2 ≡ 0 = eqb-true _ _ r.0 in
    let some : 2 ≤ a.0.0 = leb-true _ _ r.1 in
    let few : a.0.0 ≤ 1000000 = leb-true _ _ q.1 in
    let count = count_takes bytes a.0 fits a.1 in
    let units = units_take (a.0.0 / 2 - 1) met a.0.1 b.0 count.2.rest_fits p.1 in
    let last = unit_takes met b.0.2 c.0 units.takes.rest_fits c.1 in
    let zero_is : c.0.0 ≡ 0 = eqb-true _ _ z.0 in
    let rest_is : c.0.2 ≡ d.0 = some_is z.1 in
    let ended : Takes b.0.2 (0 ∷ 0 ∷ []) d.0 = subst (λ (r : List ℕ). Takes b.0.2 (0 ∷ 0 ∷ []) r) rest_is (subst (λ (u : ℕ). Takes b.0.2 (u / 256 ∷ u % 256 ∷ []) c.0.2) zero_is last.0) in
    let added = add_adds met (Str b.0.0) f.0 f.1 in
    let len : a.0.0 ≡ 2 * length b.0.0 + 2 = omega (arith, units.long, even, some) in
    let text_is : IsText b.0.0 = record { few = omega (arith, len, few); each = units.each } in
    let body = count.0 ++ (units_text b.0.0 ++ 0 ∷ 0 ∷ []) in
    let taken : Taken (with_tag 8 (Object wide room)) met bytes (refs.Node f.0.0, f.0.1, d.0) = record {
      text = body;
      new = Str b.0.0 ∷ [];
      takes = Takes-then bytes count.0 a.0.1 (units_text b.0.0 ++ 0 ∷ 0 ∷ []) d.0 count.2 (Takes-then a.0.1 (units_text b.0.0) b.0.2 (0 ∷ 0 ∷ []) d.0 units.takes ended);
      grown = added.nodes;
      few = λ h. added.few;
      spelled = λ before same.
          let length_is : length met.nodes ≡ length before = same_length met.nodes before same in
          rw (added.n, added.numbered, length_is) (Object.string (subst (Count count.0) len count.1) text_is);
    } in
    subst (Taken (with_tag 8 (Object wide room)) met bytes) (some_is f.2) taken

-- ---- binaries

record BinaryParts (met : Met) (bytes : List ℕ) (found : Ref × Met × List ℕ) : Type 0 where
  count : ℕ × List ℕ
  opened : ℕ × Met
  label : ℕ × Met × List ℕ
  counted : count_at bytes ≡ Some count
  few : count.0 ≤ 1000000
  adds : add met (Binary 0 []) ≡ Some opened
  labelled : label_at opened.1 count.1 ≡ Some label
  long : count.0 ≤ length label.2
  whole : ◌≡◌ {A = Ref × Met × List ℕ} (refs.Node opened.0, filled label.1 opened.0 (Binary label.0 (take count.0 label.2)), drop count.0 label.2) found

binary_parts : (met : Met) (bytes : List ℕ) (found : Ref × Met × List ℕ) → binary_at met bytes ≡ Some found → BinaryParts met bytes found
unfolding binary_at
binary_parts met bytes found e =
    let a = bind_some (count_at bytes) _ found e in
    let b = bind_some (cond (leb a.0.0 1000000) (add met (Binary 0 [])) None) _ found a.2 in
    let c = bind_some (label_at b.0.1 a.0.1) _ found b.2 in
    let p = provided (leb a.0.0 1000000) (add met (Binary 0 [])) b.0 b.1 in
    let u = unless (ltb (length c.0.2) a.0.0) _ found c.2 in
    record { count = a.0; opened = b.0; label = c.0; counted = a.1; few = leb-true _ _ p.0; adds = p.1; labelled = c.1; long = ltb-false _ _ u.0; whole = some_is u.1 }

pub binary_sound : (wide : Bool) (room : ℕ) → IsSound (with_tag 3 (Object wide room)) binary_at
binary_sound wide room met bytes found fits e =
    let p = binary_parts met bytes found e in
    let payload = take p.count.0 p.label.2 in
    let payload_len : length payload ≡ p.count.0 = omega (arith, p.long, length-take p.count.0 p.label.2) in
    let node = Binary p.label.0 payload in
    let count = count_takes bytes p.count fits p.counted in
    let opened = add_adds met (Binary 0 []) p.opened p.adds in
    let label = label_sound p.opened.1 p.count.1 p.label count.2.rest_fits p.labelled in
    let payload_fits : IsBytes payload = IsBytes-take p.count.0 p.label.2 label.takes.rest_fits in
    let is : IsData payload = record { few = omega (arith, payload_len, p.few); each = λ k d lt. rw (get_or_default payload k d 0 lt) (payload_fits k) } in
    let nodes : p.label.1.nodes ≡ met.nodes ++ Binary 0 [] ∷ label.new =
    label.grown ∙ ap (λ (x : List Node). x ++ label.new) opened.nodes ∙ append_assoc met.nodes (Binary 0 [] ∷ []) label.new in
    let grown : set p.label.1.nodes p.opened.0 node ≡ met.nodes ++ node ∷ label.new = rw (nodes, opened.n) (set-append_seam met.nodes (Binary 0 []) label.new node) in
    let rest = drop p.count.0 p.label.2 in
    let third : Takes p.label.2 payload rest = record { parts = sym (take-append-drop p.count.0 p.label.2); rest_fits = IsBytes-drop p.count.0 p.label.2 label.takes.rest_fits } in
    let body = count.0 ++ (label.text ++ payload) in
    let taken : Taken (with_tag 3 (Object wide room)) met bytes (refs.Node p.opened.0, filled p.label.1 p.opened.0 node, rest) = record {
      text = body;
      new = node ∷ label.new;
      takes = Takes-then bytes count.0 p.count.1 (label.text ++ payload) rest count.2 (Takes-then p.count.1 label.text p.label.2 payload rest label.takes third);
      grown = grown;
      few = λ h. rw length-set (label.few opened.few);
      spelled = λ before same.
          let length_is : length met.nodes ≡ length before = same_length met.nodes before same in
          let after_node : names p.opened.1.nodes ≡ names (before ++ node ∷ []) = ap names opened.nodes ∙ names-other met.nodes before (Binary 0 []) node refl same in
          let numbered : p.opened.1.numbered ≡ met.numbered ++ length before ∷ [] = opened.numbered ∙ ap (λ (n : ℕ). met.numbered ++ n ∷ []) length_is in
          let labelled : Label (before ++ node ∷ []) (met.numbered ++ length before ∷ []) label.text p.label.0 label.new p.label.1.numbered =
          subst (λ (x : List ℕ). Label (before ++ node ∷ []) x label.text p.label.0 label.new p.label.1.numbered) numbered (label.spelled (before ++ node ∷ []) after_node) in
          let made : Object wide room before met.numbered (3 ∷ body) (refs.Node (length before)) (node ∷ label.new) p.label.1.numbered =
          Object.binary (subst (Count count.0) (sym payload_len) count.1) is labelled in
          rw (opened.n, length_is) made;
    } in
    subst (Taken (with_tag 3 (Object wide room)) met bytes) p.whole taken

-- ---- large binaries

record LargeParts (wide : Bool) (met : Met) (bytes : List ℕ) (found : Ref × Met × List ℕ) : Type 0 where
  opened : ℕ × Met
  label : ℕ × Met × List ℕ
  payload : List ℕ × List ℕ
  adds : add met (Large 0 []) ≡ Some opened
  labelled : label_at opened.1 bytes ≡ Some label
  read : large_data_at wide label.2 ≡ Some payload
  whole : ◌≡◌ {A = Ref × Met × List ℕ} (refs.Node opened.0, filled label.1 opened.0 (Large label.0 payload.0), payload.1) found

large_parts : (wide : Bool) (met : Met) (bytes : List ℕ) (found : Ref × Met × List ℕ) → large_at wide met bytes ≡ Some found → LargeParts wide met bytes found
unfolding large_at
large_parts wide met bytes found e =
    let a = bind_some (add met (Large 0 [])) _ found e in
    let b = bind_some (label_at a.0.1 bytes) _ found a.2 in
    let c = bind_some (large_data_at wide b.0.2) _ found b.2 in
    record { opened = a.0; label = b.0; payload = c.0; adds = a.1; labelled = b.1; read = c.1; whole = some_is c.2 }

pub large_sound : (wide : Bool) (room : ℕ) → IsSound (with_tag 12 (Object wide room)) (large_at wide)
large_sound wide room met bytes found fits e =
    let p = large_parts wide met bytes found e in
    let node = Large p.label.0 p.payload.0 in
    let opened = add_adds met (Large 0 []) p.opened p.adds in
    let label = label_sound p.opened.1 bytes p.label fits p.labelled in
    let payload = large_takes wide p.label.2 p.payload label.takes.rest_fits p.read in
    let nodes : p.label.1.nodes ≡ met.nodes ++ Large 0 [] ∷ label.new =
    label.grown ∙ ap (λ (x : List Node). x ++ label.new) opened.nodes ∙ append_assoc met.nodes (Large 0 [] ∷ []) label.new in
    let grown : set p.label.1.nodes p.opened.0 node ≡ met.nodes ++ node ∷ label.new = rw (nodes, opened.n) (set-append_seam met.nodes (Large 0 []) label.new node) in
    let body = label.text ++ payload.text in
    let taken : Taken (with_tag 12 (Object wide room)) met bytes (refs.Node p.opened.0, filled p.label.1 p.opened.0 node, p.payload.1) = record {
      text = body;
      new = node ∷ label.new;
      takes = Takes-then bytes label.text p.label.2 payload.text p.payload.1 label.takes payload.takes;
      grown = grown;
      few = λ h. rw length-set (label.few opened.few);
      spelled = λ before same.
          let length_is : length met.nodes ≡ length before = same_length met.nodes before same in
          let after_node : names p.opened.1.nodes ≡ names (before ++ node ∷ []) = ap names opened.nodes ∙ names-other met.nodes before (Large 0 []) node refl same in
          let numbered : p.opened.1.numbered ≡ met.numbered ++ length before ∷ [] = opened.numbered ∙ ap (λ (n : ℕ). met.numbered ++ n ∷ []) length_is in
          let labelled : Label (before ++ node ∷ []) (met.numbered ++ length before ∷ []) label.text p.label.0 label.new p.label.1.numbered =
          subst (λ (x : List ℕ). Label (before ++ node ∷ []) x label.text p.label.0 label.new p.label.1.numbered) numbered (label.spelled (before ++ node ∷ []) after_node) in
          let made : Object wide room before met.numbered (12 ∷ body) (refs.Node (length before)) (node ∷ label.new) p.label.1.numbered = Object.large labelled payload.is in
          rw (opened.n, length_is) made;
    } in
    subst (Taken (with_tag 12 (Object wide room)) met bytes) p.whole taken

-- ---- small rectangles

record RectangleParts (met : Met) (top left bottom right : ℕ) (rest : List ℕ) (found : Ref × Met × List ℕ) : Type 0 where
  opened : ℕ × Met
  tags : List ℕ × Met
  adds : add met (Frame [] []) ≡ Some opened
  tagged : intern_each opened.1 sides ≡ Some tags
  whole : ◌≡◌ {A = Ref × Met × List ℕ} (refs.Node opened.0, filled tags.1 opened.0 (Frame tags.0 (corners top left bottom right)), rest) found

rectangle_parts : (met : Met) (top left bottom right : ℕ) (rest : List ℕ) (found : Ref × Met × List ℕ) → rectangle_at met (top ∷ left ∷ bottom ∷ right ∷ rest) ≡ Some found → RectangleParts met top left bottom right rest found
unfolding rectangle_at
rectangle_parts met top left bottom right rest found e =
    let a = bind_some (add met (Frame [] [])) _ found e in
    let b = bind_some (intern_each a.0.1 sides) _ found a.2 in
    record { opened = a.0; tags = b.0; adds = a.1; tagged = b.1; whole = some_is b.2 }

rectangle_taken : (wide : Bool) (room : ℕ) (met : Met) (top left bottom right : ℕ) (rest : List ℕ) (found : Ref × Met × List ℕ) → IsBytes (top ∷ left ∷ bottom ∷ right ∷ rest) → rectangle_at met (top ∷ left ∷ bottom ∷ right ∷ rest) ≡ Some found
    → Taken (with_tag 11 (Object wide (suc room))) met (top ∷ left ∷ bottom ∷ right ∷ rest) found
rectangle_taken wide room met top left bottom right rest found fits e =
    let p = rectangle_parts met top left bottom right rest found e in
    let opened = add_adds met (Frame [] []) p.opened p.adds in
    let tags = interned_each sides p.opened.1 p.tags p.tagged in
    let node = Frame p.tags.0 (corners top left bottom right) in
    let nodes : p.tags.1.nodes ≡ met.nodes ++ Frame [] [] ∷ tags.new =
    tags.grown ∙ ap (λ (x : List Node). x ++ tags.new) opened.nodes ∙ append_assoc met.nodes (Frame [] [] ∷ []) tags.new in
    let grown : set p.tags.1.nodes p.opened.0 node ≡ met.nodes ++ node ∷ tags.new = rw (nodes, opened.n) (set-append_seam met.nodes (Frame [] []) tags.new node) in
    let taken : Taken (with_tag 11 (Object wide (suc room))) met (top ∷ left ∷ bottom ∷ right ∷ rest) (refs.Node p.opened.0, filled p.tags.1 p.opened.0 node, rest) = record {
      text = top ∷ left ∷ bottom ∷ right ∷ [];
      new = node ∷ tags.new;
      takes = record { parts = refl; rest_fits = λ i. fits (suc (suc (suc (suc i)))) };
      grown = grown;
      few = λ h. rw length-set (tags.few opened.few);
      spelled = λ before same.
          let len : length met.nodes ≡ length before = same_length met.nodes before same in
          let after_node : names p.opened.1.nodes ≡ names (before ++ node ∷ []) = ap names opened.nodes ∙ names-other met.nodes before (Frame [] []) node refl same in
          let numbered : p.tags.1.numbered ≡ met.numbered ++ length before ∷ [] = tags.numbered ∙ opened.numbered ∙ ap (λ (n : ℕ). met.numbered ++ n ∷ []) len in
          let made : Object wide (suc room) before met.numbered (11 ∷ top ∷ left ∷ bottom ∷ right ∷ []) (refs.Node (length before)) (node ∷ tags.new) (met.numbered ++ length before ∷ []) =
          Object.rectangle (fits 0) (fits 1) (fits 2) (fits 3) (tags.interned (before ++ node ∷ []) after_node) in
          rw (opened.n, len, numbered) made;
    } in
    subst (Taken (with_tag 11 (Object wide (suc room))) met (top ∷ left ∷ bottom ∷ right ∷ rest)) p.whole taken

pub rectangle_sound : (wide : Bool) (room : ℕ) → IsSound (with_tag 11 (Object wide (suc room))) rectangle_at
unfolding rectangle_at
rectangle_sound wide room met [] found fits e = absurd cc
rectangle_sound wide room met (a ∷ []) found fits e = absurd cc
rectangle_sound wide room met (a ∷ b ∷ []) found fits e = absurd cc
rectangle_sound wide room met (a ∷ b ∷ c ∷ []) found fits e = absurd cc
rectangle_sound wide room met (top ∷ left ∷ bottom ∷ right ∷ rest) found fits e = rectangle_taken wide room met top left bottom right rest found fits e
