-- Containers that are read are spelled so.
use Rattle.std.proofs.Common.{◌≡◌, ℕ, suc, ◌≤◌, Bool, true, cond, leb, List, [], ◌∷◌, ◌++◌, length, Some, None, refl, sym, ap, subst, ◌∙◌, append_assoc, arith}
use Rattle.std.specs.Prelude.{set}
use Rattle.std.proofs.lemmas.Bool.{leb-true}
use Rattle.std.proofs.lemmas.List.{length-set}
use Rattle.std.proofs.Math.Seq.{set-append_seam}
use Rattle.newt_graph.specs.declared.node.Node.{Node}
use Rattle.newt_graph.specs.declared.node.Node.TheVariants.{Array, Frame}
use Rattle.newt_graph.specs.declared.node.Ref.{Ref}
use Rattle.newt_graph.specs.declared.node.Ref.TheVariants as refs
use Rattle.newt_spec_nsof.specs.Text.{Count, Label, Labels, Object, Objects}
use Rattle.newt_nsof_read.specs.Met.{Met}
use Rattle.newt_nsof_read.specs.Reading.{Reader, count_at, add, label_at, many_at, filled, frame_at, plain_array_at, array_at}
use Rattle.newt_graph.specs.Graph.{all_distinct}
use Rattle.newt_graph.proofs.Options.{bind_some, provided, some_is}
use Rattle.newt_nsof_read.proofs.Fields.{Takes, Takes-then, count_takes}
use Rattle.newt_graph.proofs.Distinct.{all_distinct_tells}
use Rattle.newt_nsof_read.proofs.Names.{names, names-append, names-other, same_length}
use Rattle.newt_nsof_read.proofs.Taken.{Taken, IsSound, add_adds, with_tag, label_sound, Lists, many_sound, many_length, label_lists}

pub object_lists : (wide : Bool) (room : ℕ) → Lists (Object wide room) (Objects wide room)
object_lists wide room = record {
  none = λ before numbered. Objects.none;
  more = λ before numbered first value new then others values news after one many. Objects.more one many;
}

-- ---- frames

-- the parts of a frame that was read
record FrameParts (read : Reader Ref) (met : Met) (bytes : List ℕ) (found : Ref × Met × List ℕ) : Type 0 where
  count : ℕ × List ℕ
  opened : ℕ × Met
  labels : List ℕ × Met × List ℕ
  values : List Ref × Met × List ℕ
  counted : count_at bytes ≡ Some count
  few : count.0 ≤ 65535
  adds : add met (Frame [] []) ≡ Some opened
  labelled : many_at label_at count.0 opened.1 count.1 ≡ Some labels
  distinct : all_distinct labels.0 ≡ true
  valued : many_at read count.0 labels.1 labels.2 ≡ Some values
  whole : ◌≡◌ {A = Ref × Met × List ℕ} (refs.Node opened.0, filled values.1 opened.0 (Frame labels.0 values.0), values.2) found

frame_parts : (read : Reader Ref) (met : Met) (bytes : List ℕ) (found : Ref × Met × List ℕ) → frame_at read met bytes ≡ Some found → FrameParts read met bytes found
unfolding frame_at
frame_parts read met bytes found e =
    let a = bind_some (count_at bytes) _ found e in
    let b = bind_some (cond (leb a.0.0 65535) (add met (Frame [] [])) None) _ found a.2 in
    let c = bind_some (many_at label_at a.0.0 b.0.1 a.0.1) _ found b.2 in
    let d = bind_some (cond (all_distinct c.0.0) (many_at read a.0.0 c.0.1 c.0.2) None) _ found c.2 in
    let p = provided (leb a.0.0 65535) (add met (Frame [] [])) b.0 b.1 in
    let q = provided (all_distinct c.0.0) (many_at read a.0.0 c.0.1 c.0.2) d.0 d.1 in
    record {
      count = a.0;
      opened = b.0;
      labels = c.0;
      values = d.0;
      counted = a.1;
      few = leb-true _ _ p.0;
      adds = p.1;
      labelled = c.1;
      distinct = q.0;
      valued = q.1;
      whole = some_is d.2;
    }

pub frame_sound : (wide : Bool) (room : ℕ) (read : Reader Ref) → IsSound (Object wide room) read → IsSound (with_tag 6 (Object wide (suc room))) (frame_at read)
frame_sound wide room read sound met bytes found fits e =
    let p = frame_parts read met bytes found e in
    let count = count_takes bytes p.count fits p.counted in
    let opened = add_adds met (Frame [] []) p.opened p.adds in
    let labels = many_sound label_lists label_at label_sound p.count.0 p.opened.1 p.count.1 p.labels count.2.rest_fits p.labelled in
    let values = many_sound (object_lists wide room) read sound p.count.0 p.labels.1 p.labels.2 p.values labels.takes.rest_fits p.valued in
    let tags = p.labels.0 in
    let frame = Frame tags p.values.0 in
    let tags_len : length tags ≡ p.count.0 = many_length label_at p.count.0 p.opened.1 p.count.1 p.labels p.labelled in
    let values_len : length p.values.0 ≡ p.count.0 = many_length read p.count.0 p.labels.1 p.labels.2 p.values p.valued in
    let nodes : p.values.1.nodes ≡ met.nodes ++ Frame [] [] ∷ (labels.new ++ values.new) =
    values.grown ∙ ap (λ (x : List Node). x ++ values.new) (labels.grown ∙ ap (λ (x : List Node). x ++ labels.new) opened.nodes)
    ∙ append_assoc (met.nodes ++ Frame [] [] ∷ []) labels.new values.new ∙ append_assoc met.nodes (Frame [] [] ∷ []) (labels.new ++ values.new) in
    let grown : set p.values.1.nodes p.opened.0 frame ≡ met.nodes ++ frame ∷ (labels.new ++ values.new) =
    rw (nodes, opened.n) (set-append_seam met.nodes (Frame [] []) (labels.new ++ values.new) frame) in
    let body = count.0 ++ (labels.text ++ values.text) in
    let takes : Takes bytes body p.values.2 =
    Takes-then bytes count.0 p.count.1 (labels.text ++ values.text) p.values.2 count.2 (Takes-then p.count.1 labels.text p.labels.2 values.text p.values.2 labels.takes values.takes) in
    let spelled : (before : List Node) → names met.nodes ≡ names before
    → Object wide (suc room) before met.numbered (6 ∷ body) (refs.Node p.opened.0) (frame ∷ (labels.new ++ values.new)) p.values.1.numbered = λ before same.
    let len : length met.nodes ≡ length before = same_length met.nodes before same in
    let after_frame : names p.opened.1.nodes ≡ names (before ++ frame ∷ []) = ap names opened.nodes ∙ names-other met.nodes before (Frame [] []) frame refl same in
    let after_tags : names p.labels.1.nodes ≡ names (before ++ frame ∷ labels.new) =
    ap names labels.grown ∙ names-append p.opened.1.nodes (before ++ frame ∷ []) labels.new after_frame ∙ ap names (append_assoc before (frame ∷ []) labels.new) in
    let numbered : p.opened.1.numbered ≡ met.numbered ++ length before ∷ [] = opened.numbered ∙ ap (λ (n : ℕ). met.numbered ++ n ∷ []) len in
    let tagged : Labels (before ++ frame ∷ []) (met.numbered ++ length before ∷ []) labels.text tags labels.new p.labels.1.numbered =
    subst (λ (x : List ℕ). Labels (before ++ frame ∷ []) x labels.text tags labels.new p.labels.1.numbered) numbered (labels.spelled (before ++ frame ∷ []) after_frame) in
    let valued = values.spelled (before ++ frame ∷ labels.new) after_tags in
    let made : Object wide (suc room) before met.numbered (6 ∷ body) (refs.Node (length before)) (frame ∷ (labels.new ++ values.new)) p.values.1.numbered =
    Object.frame (subst (Count count.0) (sym tags_len) count.1) (record { few = omega (arith, p.few, tags_len); distinct = all_distinct_tells tags p.distinct })
    (values_len ∙ sym tags_len) tagged valued in
    rw (opened.n, len) made in
    subst (Taken (with_tag 6 (Object wide (suc room))) met bytes) p.whole (record {
      text = body;
      new = frame ∷ (labels.new ++ values.new);
      takes = takes;
      grown = grown;
      few = λ h. rw length-set (values.few (labels.few opened.few));
      spelled = spelled;
    })

-- ---- arrays

record PlainArrayParts (read : Reader Ref) (met : Met) (bytes : List ℕ) (found : Ref × Met × List ℕ) : Type 0 where
  count : ℕ × List ℕ
  opened : ℕ × Met
  values : List Ref × Met × List ℕ
  counted : count_at bytes ≡ Some count
  few : count.0 ≤ 65535
  adds : add met (Array None []) ≡ Some opened
  valued : many_at read count.0 opened.1 count.1 ≡ Some values
  whole : ◌≡◌ {A = Ref × Met × List ℕ} (refs.Node opened.0, filled values.1 opened.0 (Array None values.0), values.2) found

plain_array_parts : (read : Reader Ref) (met : Met) (bytes : List ℕ) (found : Ref × Met × List ℕ) → plain_array_at read met bytes ≡ Some found → PlainArrayParts read met bytes found
unfolding plain_array_at
plain_array_parts read met bytes found e =
    let a = bind_some (count_at bytes) _ found e in
    let b = bind_some (cond (leb a.0.0 65535) (add met (Array None [])) None) _ found a.2 in
    let d = bind_some (many_at read a.0.0 b.0.1 a.0.1) _ found b.2 in
    let p = provided (leb a.0.0 65535) (add met (Array None [])) b.0 b.1 in
    record { count = a.0; opened = b.0; values = d.0; counted = a.1; few = leb-true _ _ p.0; adds = p.1; valued = d.1; whole = some_is d.2 }

pub plain_array_sound : (wide : Bool) (room : ℕ) (read : Reader Ref) → IsSound (Object wide room) read → IsSound (with_tag 5 (Object wide (suc room))) (plain_array_at read)
plain_array_sound wide room read sound met bytes found fits e =
    let p = plain_array_parts read met bytes found e in
    let count = count_takes bytes p.count fits p.counted in
    let opened = add_adds met (Array None []) p.opened p.adds in
    let values = many_sound (object_lists wide room) read sound p.count.0 p.opened.1 p.count.1 p.values count.2.rest_fits p.valued in
    let node = Array None p.values.0 in
    let values_len : length p.values.0 ≡ p.count.0 = many_length read p.count.0 p.opened.1 p.count.1 p.values p.valued in
    let nodes : p.values.1.nodes ≡ met.nodes ++ Array None [] ∷ values.new =
    values.grown ∙ ap (λ (x : List Node). x ++ values.new) opened.nodes ∙ append_assoc met.nodes (Array None [] ∷ []) values.new in
    let grown : set p.values.1.nodes p.opened.0 node ≡ met.nodes ++ node ∷ values.new = rw (nodes, opened.n) (set-append_seam met.nodes (Array None []) values.new node) in
    let body = count.0 ++ values.text in
    let spelled : (before : List Node) → names met.nodes ≡ names before
    → Object wide (suc room) before met.numbered (5 ∷ body) (refs.Node p.opened.0) (node ∷ values.new) p.values.1.numbered = λ before same.
    let len : length met.nodes ≡ length before = same_length met.nodes before same in
    let after_node : names p.opened.1.nodes ≡ names (before ++ node ∷ []) = ap names opened.nodes ∙ names-other met.nodes before (Array None []) node refl same in
    let numbered : p.opened.1.numbered ≡ met.numbered ++ length before ∷ [] = opened.numbered ∙ ap (λ (n : ℕ). met.numbered ++ n ∷ []) len in
    let valued : Objects wide room (before ++ node ∷ []) (met.numbered ++ length before ∷ []) values.text p.values.0 values.new p.values.1.numbered =
    subst (λ (x : List ℕ). Objects wide room (before ++ node ∷ []) x values.text p.values.0 values.new p.values.1.numbered) numbered (values.spelled (before ++ node ∷ []) after_node) in
    let made : Object wide (suc room) before met.numbered (5 ∷ body) (refs.Node (length before)) (node ∷ values.new) p.values.1.numbered =
    Object.plain_array (subst (Count count.0) (sym values_len) count.1) (omega (arith, p.few, values_len)) valued in
    rw (opened.n, len) made in
    subst (Taken (with_tag 5 (Object wide (suc room))) met bytes) p.whole (record {
      text = body;
      new = node ∷ values.new;
      takes = Takes-then bytes count.0 p.count.1 values.text p.values.2 count.2 values.takes;
      grown = grown;
      few = λ h. rw length-set (values.few opened.few);
      spelled = spelled;
    })

record ArrayParts (read : Reader Ref) (met : Met) (bytes : List ℕ) (found : Ref × Met × List ℕ) : Type 0 where
  count : ℕ × List ℕ
  opened : ℕ × Met
  label : ℕ × Met × List ℕ
  values : List Ref × Met × List ℕ
  counted : count_at bytes ≡ Some count
  few : count.0 ≤ 65535
  adds : add met (Array None []) ≡ Some opened
  labelled : label_at opened.1 count.1 ≡ Some label
  valued : many_at read count.0 label.1 label.2 ≡ Some values
  whole : ◌≡◌ {A = Ref × Met × List ℕ} (refs.Node opened.0, filled values.1 opened.0 (Array (Some label.0) values.0), values.2) found

array_parts : (read : Reader Ref) (met : Met) (bytes : List ℕ) (found : Ref × Met × List ℕ) → array_at read met bytes ≡ Some found → ArrayParts read met bytes found
unfolding array_at
array_parts read met bytes found e =
    let a = bind_some (count_at bytes) _ found e in
    let b = bind_some (cond (leb a.0.0 65535) (add met (Array None [])) None) _ found a.2 in
    let c = bind_some (label_at b.0.1 a.0.1) _ found b.2 in
    let d = bind_some (many_at read a.0.0 c.0.1 c.0.2) _ found c.2 in
    let p = provided (leb a.0.0 65535) (add met (Array None [])) b.0 b.1 in
    record { count = a.0; opened = b.0; label = c.0; values = d.0; counted = a.1; few = leb-true _ _ p.0; adds = p.1; labelled = c.1; valued = d.1; whole = some_is d.2 }

pub array_sound : (wide : Bool) (room : ℕ) (read : Reader Ref) → IsSound (Object wide room) read → IsSound (with_tag 4 (Object wide (suc room))) (array_at read)
array_sound wide room read sound met bytes found fits e =
    let p = array_parts read met bytes found e in
    let count = count_takes bytes p.count fits p.counted in
    let opened = add_adds met (Array None []) p.opened p.adds in
    let label = label_sound p.opened.1 p.count.1 p.label count.2.rest_fits p.labelled in
    let values = many_sound (object_lists wide room) read sound p.count.0 p.label.1 p.label.2 p.values label.takes.rest_fits p.valued in
    let node = Array (Some p.label.0) p.values.0 in
    let values_len : length p.values.0 ≡ p.count.0 = many_length read p.count.0 p.label.1 p.label.2 p.values p.valued in
    let nodes : p.values.1.nodes ≡ met.nodes ++ Array None [] ∷ (label.new ++ values.new) =
    values.grown ∙ ap (λ (x : List Node). x ++ values.new) (label.grown ∙ ap (λ (x : List Node). x ++ label.new) opened.nodes)
    ∙ append_assoc (met.nodes ++ Array None [] ∷ []) label.new values.new ∙ append_assoc met.nodes (Array None [] ∷ []) (label.new ++ values.new) in
    let grown : set p.values.1.nodes p.opened.0 node ≡ met.nodes ++ node ∷ (label.new ++ values.new) = rw (nodes, opened.n) (set-append_seam met.nodes (Array None []) (label.new ++ values.new) node) in
    let body = count.0 ++ (label.text ++ values.text) in
    let spelled : (before : List Node) → names met.nodes ≡ names before
    → Object wide (suc room) before met.numbered (4 ∷ body) (refs.Node p.opened.0) (node ∷ (label.new ++ values.new)) p.values.1.numbered = λ before same.
    let len : length met.nodes ≡ length before = same_length met.nodes before same in
    let after_node : names p.opened.1.nodes ≡ names (before ++ node ∷ []) = ap names opened.nodes ∙ names-other met.nodes before (Array None []) node refl same in
    let after_label : names p.label.1.nodes ≡ names (before ++ node ∷ label.new) =
    ap names label.grown ∙ names-append p.opened.1.nodes (before ++ node ∷ []) label.new after_node ∙ ap names (append_assoc before (node ∷ []) label.new) in
    let numbered : p.opened.1.numbered ≡ met.numbered ++ length before ∷ [] = opened.numbered ∙ ap (λ (n : ℕ). met.numbered ++ n ∷ []) len in
    let labelled : Label (before ++ node ∷ []) (met.numbered ++ length before ∷ []) label.text p.label.0 label.new p.label.1.numbered =
    subst (λ (x : List ℕ). Label (before ++ node ∷ []) x label.text p.label.0 label.new p.label.1.numbered) numbered (label.spelled (before ++ node ∷ []) after_node) in
    let valued = values.spelled (before ++ node ∷ label.new) after_label in
    let made : Object wide (suc room) before met.numbered (4 ∷ body) (refs.Node (length before)) (node ∷ (label.new ++ values.new)) p.values.1.numbered =
    Object.array (subst (Count count.0) (sym values_len) count.1) (omega (arith, p.few, values_len)) labelled valued in
    rw (opened.n, len) made in
    subst (Taken (with_tag 4 (Object wide (suc room))) met bytes) p.whole (record {
      text = body;
      new = node ∷ (label.new ++ values.new);
      takes = Takes-then bytes count.0 p.count.1 (label.text ++ values.text) p.values.2 count.2 (Takes-then p.count.1 label.text p.label.2 values.text p.values.2 label.takes values.takes);
      grown = grown;
      few = λ h. rw length-set (values.few (label.few opened.few));
      spelled = spelled;
    })
