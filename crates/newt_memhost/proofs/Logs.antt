-- A log that grows.
use Rattle.std.proofs.Common.{◌≡◌, ℕ, ◌+◌, ◌≤◌, List, [], ◌∷◌, ◌++◌, length, take, drop, refl, sym, ◌∙◌, ap, arith, length-drop}
use Rattle.std.proofs.lemmas.List.{drop-append-le, take-append-le, take_all}
use Rattle.newt_host.specs.Moments.{Moment}
use Rattle.newt_memhost.specs.Happened.{bytes_of, counts, total, calls_in, after, moment_from}
use Rattle.newt_memhost.specs.declared.happened.Happened.{Happened}
use Rattle.newt_memhost.specs.declared.happened.Happened.TheVariants.{Attach, Take, Print, Read, Write, Sync}

pub total-push : (log : List Happened) (h : Happened) → total (log ++ h ∷ []) ≡ total log + bytes_of h
total-push [] h = omega arith
total-push (x ∷ log) h = let rest = total-push log h in omega (arith, rest)

no_items : (store : List ℕ) → length store ≡ 0 → store ≡ []
no_items [] none = refl
no_items (x ∷ xs) none = absurd (omega (arith, none))

take_whole : (n : ℕ) (bytes : List ℕ) → n ≡ length bytes → take n bytes ≡ bytes
take_whole n bytes is = take_all n bytes (omega (arith, is))

-- one entry more, with its bytes
pub moment-push : (before : Moment) (log : List Happened) (store : List ℕ) (h : Happened) (bytes : List ℕ) → total log ≡ length store → bytes_of h ≡ length bytes
    → moment_from before (log ++ h ∷ []) (store ++ bytes) ≡ after h bytes (moment_from before log store)
moment-push before [] store h bytes used its =
    let none = no_items store (sym used) in
    ap (λ (l : List ℕ). after h (take (bytes_of h) (l ++ bytes)) before) none ∙ ap (λ (l : List ℕ). after h l before) (take_whole (bytes_of h) bytes its)
moment-push before (x ∷ log) store h bytes used its =
    let fits : bytes_of x ≤ length store = omega (arith, used) in
    let rest : total log ≡ length (drop (bytes_of x) store) = omega (arith, used, length-drop (bytes_of x) store) in
    ap (λ (l : List ℕ). moment_from (after x l before) (log ++ h ∷ []) (drop (bytes_of x) (store ++ bytes))) (take-append-le (bytes_of x) store bytes fits)
    ∙ ap (λ (l : List ℕ). moment_from (after x (take (bytes_of x) store) before) (log ++ h ∷ []) l) (drop-append-le (bytes_of x) store bytes fits)
    ∙ moment-push (after x (take (bytes_of x) store) before) log (drop (bytes_of x) store) h bytes rest its

pub calls-push : (log : List Happened) (h : Happened) → calls_in (log ++ h ∷ []) ≡ calls_in log + counts h
calls-push [] h = omega arith
calls-push (x ∷ log) h = let rest = calls-push log h in omega (arith, rest)

counts-le : (h : Happened) → counts h ≤ 1
counts-le (Attach u bytes) = omega arith
counts-le (Take o) = omega arith
counts-le (Print n) = omega arith
counts-le (Read u) = omega arith
counts-le (Write u at n) = omega arith
counts-le (Sync u done) = omega arith

pub calls-le : (log : List Happened) → calls_in log ≤ length log
calls-le [] = omega arith
calls-le (h ∷ log) = let one = counts-le h in let rest = calls-le log in omega (arith, one, rest)
