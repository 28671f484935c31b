-- Nodes of the written text in full, from their parts.
use Rattle.std.proofs.Common.{◌≡◌, ℕ, List, [], ◌∷◌, ◌++◌, length, ap, ◌∙◌, append_assoc}
use Rattle.std.specs.Prelude.{Result, Ok, Err, OnOk}
use Rattle.std.specs.declared.alloc.AllocError.{AllocError}
use Rattle.newt_graph.specs.declared.node.Node.{Node}
use Rattle.newt_graph.specs.declared.node.Ref.{Ref}
use Rattle.newt_spec_nsof.specs.Text.{large_text}
use Rattle.newt_spec_nsof.specs.Flat.{count_text, each_text}
use Rattle.newt_spec_nsof.specs.Written.{Text, label_text, frame_text, plain_array_text, array_text, binary_text, plain_large_text}
use Rattle.newt_nsof_write.specs.Writing.{Adds}

-- a result that is handed on
on_ok : {A E P Q : Type 0} (r : Result A E) → (P → Q) → OnOk r P → OnOk r Q
on_ok (Err e) f h = tt
on_ok (Ok x) f h = f h

pub full_frame_adds : (old tagged counted labelled new : List ℕ) (inner : Ref → List ℕ → Text) (nodes : List Node) (k : ℕ) (tags : List ℕ) (values : List Ref) (numbers given known last : List ℕ) (r : Result Unit AllocError)
    → given ≡ numbers ++ k ∷ [] → tagged ≡ old ++ 6 ∷ [] → counted ≡ tagged ++ count_text (length tags) → Adds counted labelled known (each_text (label_text nodes) tags given)
    → OnOk r (Adds labelled new last (each_text inner values known))
    → OnOk r (Adds old new last (frame_text inner nodes k tags values numbers))
unfolding frame_text
full_frame_adds old tagged counted labelled new inner nodes k tags values numbers given known last r g a b labels h =
    let tag_text = (each_text (label_text nodes) tags given).0 in
    let so_far : labelled ≡ ((old ++ 6 ∷ []) ++ count_text (length tags)) ++ tag_text = labels.bytes ∙ ap (λ (x : List ℕ). x ++ tag_text) (b ∙ ap (λ (x : List ℕ). x ++ count_text (length tags)) a) in
    on_ok r (λ read. rw (← g) (record {
      bytes = rw (← labels.count) (read.bytes ∙ rw so_far (simp append_assoc));
      count = rw (← labels.count) read.count;
    })) h

pub classed_array_adds : (old tagged counted labelled new : List ℕ) (inner : Ref → List ℕ → Text) (nodes : List Node) (k class : ℕ) (values : List Ref) (numbers given known last : List ℕ) (r : Result Unit AllocError)
    → given ≡ numbers ++ k ∷ [] → tagged ≡ old ++ 4 ∷ [] → counted ≡ tagged ++ count_text (length values) → Adds counted labelled known (label_text nodes class given)
    → OnOk r (Adds labelled new last (each_text inner values known))
    → OnOk r (Adds old new last (array_text inner nodes k class values numbers))
unfolding array_text
classed_array_adds old tagged counted labelled new inner nodes k class values numbers given known last r g a b label h =
    let class_text = (label_text nodes class given).0 in
    let so_far : labelled ≡ ((old ++ 4 ∷ []) ++ count_text (length values)) ++ class_text = label.bytes ∙ ap (λ (x : List ℕ). x ++ class_text) (b ∙ ap (λ (x : List ℕ). x ++ count_text (length values)) a) in
    on_ok r (λ read. rw (← g) (record {
      bytes = rw (← label.count) (read.bytes ∙ rw so_far (simp append_assoc));
      count = rw (← label.count) read.count;
    })) h

pub binary_adds : (old tagged counted labelled new : List ℕ) (nodes : List Node) (k class : ℕ) (bytes numbers given known : List ℕ)
    → given ≡ numbers ++ k ∷ [] → tagged ≡ old ++ 3 ∷ [] → counted ≡ tagged ++ count_text (length bytes) → Adds counted labelled known (label_text nodes class given) → new ≡ labelled ++ bytes
    → Adds old new known (binary_text nodes k class bytes numbers)
unfolding binary_text
binary_adds old tagged counted labelled new nodes k class bytes numbers given known g a b label d =
    let class_text = (label_text nodes class given).0 in
    let so_far : labelled ≡ ((old ++ 3 ∷ []) ++ count_text (length bytes)) ++ class_text = label.bytes ∙ ap (λ (x : List ℕ). x ++ class_text) (b ∙ ap (λ (x : List ℕ). x ++ count_text (length bytes)) a) in
    rw (← g) (record { bytes = d ∙ rw so_far (simp append_assoc); count = label.count })

pub large_adds : (old tagged labelled new : List ℕ) (nodes : List Node) (k class : ℕ) (bytes numbers given known : List ℕ)
    → given ≡ numbers ++ k ∷ [] → tagged ≡ old ++ 12 ∷ [] → Adds tagged labelled known (label_text nodes class given) → new ≡ labelled ++ large_text 0 0 [] [] bytes
    → Adds old new known (plain_large_text nodes k class bytes numbers)
unfolding plain_large_text
large_adds old tagged labelled new nodes k class bytes numbers given known g a label d =
    rw (← g) (record { bytes = joins (12 ∷ []) (large_text 0 0 [] [] bytes) a d; count = label.count })
  where
    joins : (tag payload_text : List ℕ) → tagged ≡ old ++ tag → new ≡ labelled ++ payload_text → new ≡ old ++ (tag ++ ((label_text nodes class given).0 ++ payload_text))
    joins tag payload_text a d = d ∙ rw (label.bytes, a) (simp append_assoc)

pub plain_array_adds : (old tagged counted new : List ℕ) (inner : Ref → List ℕ → Text) (k : ℕ) (values : List Ref) (numbers given last : List ℕ) (r : Result Unit AllocError)
    → given ≡ numbers ++ k ∷ [] → tagged ≡ old ++ 5 ∷ [] → counted ≡ tagged ++ count_text (length values)
    → OnOk r (Adds counted new last (each_text inner values given))
    → OnOk r (Adds old new last (plain_array_text inner k values numbers))
unfolding plain_array_text
plain_array_adds old tagged counted new inner k values numbers given last r g a b h =
    let so_far : counted ≡ (old ++ 5 ∷ []) ++ count_text (length values) = b ∙ ap (λ (x : List ℕ). x ++ count_text (length values)) a in
    on_ok r (λ read. rw (← g) (record { bytes = read.bytes ∙ rw so_far (simp append_assoc); count = read.count })) h
