-- What is read of a text.
use Rattle.std.proofs.Common.{◌≡◌, refl, sym, ◌∙◌, ap, subst, ℕ, ◌-◌, ◌<◌, ◌≤◌, true, false, List, [], ◌∷◌, length, take, drop, Some, None, Ok, get_or, arith}
use Rattle.std.specs.Prelude.{nat_lt, option_map, if◌then◌else◌, ◌&&◌}
use Rattle.std.proofs.lemmas.List.Elements.{All-tail, All-take, All-drop}
use Rattle.std.proofs.lemmas.Grind.{common_steps}
use Rattle.newt_base.specs.Text.{be16_at, be32_at}
use Rattle.newt_graph.specs.Graph.{RawGraph}
use Rattle.newt_spec_nsof.specs.Text.{AreBytes}
use Rattle.newt_nsof_read.specs.Reading.{decoded}
use Rattle.newt_nsof_flat.specs.Stream.{are_bytes, graph_in, stream_graph}
use Rattle.newt_spec_store.specs.Store.{Entry}
use Rattle.newt_backup.specs.Texts.{full_read}

bytes-true : (xs : List ℕ) → AreBytes xs → are_bytes xs ≡ true
bytes-true [] h = refl
bytes-true (x ∷ xs) h = both (nat_lt x 256) (are_bytes xs) (small x (h 0 x (omega arith))) (bytes-true xs (All-tail (λ b. b < 256) x xs h))
  where
    both : (a b : _) → a ≡ true → b ≡ true → (a && b) ≡ true
    both a b e f = grind arith

    small : (x : ℕ) → x < 256 → nat_lt x 256 ≡ true
    small x h = grind arith

pub full-found : (text slice : List ℕ) (g : RawGraph) (soup uid time : ℕ) → 10 ≤ length text → slice ≡ drop 10 text → AreBytes slice → Ok g ≡ decoded slice
    → soup ≡ be16_at text 0 → uid ≡ be32_at text 2 → time ≡ be32_at text 6 → full_read text ≡ Some (soup, record { uid = uid; time = time; graph = g })
unfolding full_read
full-found text slice g soup uid time long s bytes d a b t =
    rw (enough (length text) long, a, b, t) (ap (λ o. option_map (λ g. (be16_at text 0, of (be32_at text 2) (be32_at text 6) g)) o) found)
  where
    of : ℕ → ℕ → RawGraph → Entry
    of uid time graph = record { uid = uid; time = time; graph = graph }

    enough : (n : ℕ) → 10 ≤ n → nat_lt n 10 ≡ false
    enough n h = grind arith

    found : stream_graph (drop 10 text) ≡ Some g
    found = ap (λ l. stream_graph l) (sym s) ∙ ap (λ c. if c then graph_in (decoded slice) else None) (bytes-true slice bytes) ∙ ap (λ r. graph_in r) (sym d)

pub rest-bytes : (n : ℕ) (bytes : List ℕ) → ((k : ℕ) → get_or bytes k 0 < 256) → AreBytes (take (length bytes - n) (drop n bytes))
rest-bytes n bytes h = All-take (λ b. b < 256) (length bytes - n) (drop n bytes) (All-drop (λ b. b < 256) n bytes (λ k d lt. subst (λ x. x < 256) (same bytes k d lt) (h k)))
  where
    same : (bytes : List ℕ) (k d : ℕ) → k < length bytes → get_or bytes k 0 ≡ get_or bytes k d
    same bytes k d lt = grind (arith, common_steps, lt)
