-- The form of a query by the parts in which it is read.
use Rattle.std.proofs.Common.{◌≡◌, Bool, true, false, refl}
use Rattle.std.specs.Prelude.{◌&&◌, codes, is_some}
use Rattle.std.proofs.lemmas.Bool.{and_parts, and_left, and_right}
use Rattle.newt_graph.specs.Graph.{RawGraph}
use Rattle.newt_spec_query.specs.Spec.{bound_is, has_only, index_paths, is_query, is_tag_spec, is_text_list, is_true, query_slots, slot_is}
use Rattle.newt_query.specs.Form.{is_framed}

-- eight tests, of which four are made before the others
all_hold : (a b c d e f g h : Bool) → (a && c && d && h) ≡ true → b ≡ true → e ≡ true → f ≡ true → g ≡ true → (a && b && c && d && e && f && g && h) ≡ true
all_hold a b c d e f g h framed pb pe pf pg =
    let p = and_parts (a && c && d) h framed in
    let q = and_parts (a && c) d p.0 in
    let r = and_parts a c q.0 in
    rw (r.0, pb, r.1, q.1, pe, pf, pg, p.1) refl

first_fails : (a b c d e f g h : Bool) → (a && c && d && h) ≡ false → (a && b && c && d && e && f && g && h) ≡ false
first_fails a b c d e f g true framed = and_left (a && b && c && d && e && f && g) true (and_left (a && b && c && d && e && f) g (and_left (a && b && c && d && e) f (and_left (a && b && c && d) e (three a b c d framed))))
  where
    three : (a b c d : Bool) → (a && c && d && true) ≡ false → (a && b && c && d) ≡ false
    three true true true true e = absurd cc
    three false b c d e = refl
    three true false c d e = refl
    three true true false d e = refl
    three true true true false e = refl
first_fails a b c d e f g false framed = and_right (a && b && c && d && e && f && g) false refl

pub is_query-framed : (g : RawGraph) → is_framed g ≡ true
    → slot_is g (codes "indexPath") (λ r. is_some (index_paths g.nodes r)) ≡ true
    → slot_is g (codes "tagSpec") (is_tag_spec g.nodes) ≡ true
    → slot_is g (codes "words") (is_text_list g) ≡ true
    → slot_is g (codes "text") (is_text_list g) ≡ true
    → is_query g ≡ true
is_query-framed g framed paths tags words texts =
    all_hold (has_only g.nodes query_slots g.root) (slot_is g (codes "indexPath") (λ r. is_some (index_paths g.nodes r)))
    (bound_is g (codes "beginKey") (codes "beginExclKey")) (bound_is g (codes "endKey") (codes "endExclKey"))
    (slot_is g (codes "tagSpec") (is_tag_spec g.nodes)) (slot_is g (codes "words") (is_text_list g)) (slot_is g (codes "text") (is_text_list g))
    (slot_is g (codes "entireWords") is_true) framed paths tags words texts

pub not_framed : (g : RawGraph) → is_framed g ≡ false → is_query g ≡ false
not_framed g e =
    first_fails (has_only g.nodes query_slots g.root) (slot_is g (codes "indexPath") (λ r. is_some (index_paths g.nodes r)))
    (bound_is g (codes "beginKey") (codes "beginExclKey")) (bound_is g (codes "endKey") (codes "endExclKey"))
    (slot_is g (codes "tagSpec") (is_tag_spec g.nodes)) (slot_is g (codes "words") (is_text_list g)) (slot_is g (codes "text") (is_text_list g))
    (slot_is g (codes "entireWords") is_true) e

fifth : (a b c d e f g h : Bool) → e ≡ false → (a && b && c && d && e && f && g && h) ≡ false
fifth a b c d e f g h fails = and_left (a && b && c && d && e && f && g) h (and_left (a && b && c && d && e && f) g (and_left (a && b && c && d && e) f (and_right (a && b && c && d) e fails)))

sixth : (a b c d e f g h : Bool) → f ≡ false → (a && b && c && d && e && f && g && h) ≡ false
sixth a b c d e f g h fails = and_left (a && b && c && d && e && f && g) h (and_left (a && b && c && d && e && f) g (and_right (a && b && c && d && e) f fails))

seventh : (a b c d e f g h : Bool) → g ≡ false → (a && b && c && d && e && f && g && h) ≡ false
seventh a b c d e f g h fails = and_left (a && b && c && d && e && f && g) h (and_right (a && b && c && d && e && f) g fails)

pub no_tags : (g : RawGraph) → slot_is g (codes "tagSpec") (is_tag_spec g.nodes) ≡ false → is_query g ≡ false
no_tags g e =
    fifth (has_only g.nodes query_slots g.root) (slot_is g (codes "indexPath") (λ r. is_some (index_paths g.nodes r)))
    (bound_is g (codes "beginKey") (codes "beginExclKey")) (bound_is g (codes "endKey") (codes "endExclKey"))
    (slot_is g (codes "tagSpec") (is_tag_spec g.nodes)) (slot_is g (codes "words") (is_text_list g)) (slot_is g (codes "text") (is_text_list g))
    (slot_is g (codes "entireWords") is_true) e

pub no_words : (g : RawGraph) → slot_is g (codes "words") (is_text_list g) ≡ false → is_query g ≡ false
no_words g e =
    sixth (has_only g.nodes query_slots g.root) (slot_is g (codes "indexPath") (λ r. is_some (index_paths g.nodes r)))
    (bound_is g (codes "beginKey") (codes "beginExclKey")) (bound_is g (codes "endKey") (codes "endExclKey"))
    (slot_is g (codes "tagSpec") (is_tag_spec g.nodes)) (slot_is g (codes "words") (is_text_list g)) (slot_is g (codes "text") (is_text_list g))
    (slot_is g (codes "entireWords") is_true) e

pub no_texts : (g : RawGraph) → slot_is g (codes "text") (is_text_list g) ≡ false → is_query g ≡ false
no_texts g e =
    seventh (has_only g.nodes query_slots g.root) (slot_is g (codes "indexPath") (λ r. is_some (index_paths g.nodes r)))
    (bound_is g (codes "beginKey") (codes "beginExclKey")) (bound_is g (codes "endKey") (codes "endExclKey"))
    (slot_is g (codes "tagSpec") (is_tag_spec g.nodes)) (slot_is g (codes "words") (is_text_list g)) (slot_is g (codes "text") (is_text_list g))
    (slot_is g (codes "entireWords") is_true) e
