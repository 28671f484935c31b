-- The lines of reports, from their parts.
use Rattle.std.proofs.Common.{◌≡◌, ℕ, List, [], ◌∷◌, ◌++◌, length, codes, decimal, sym, ◌∙◌, ap}
use Rattle.newt_base.proofs.Numerals.{decimal_written}
use Rattle.newt_base.specs.Text.{decimal_text}
use Rattle.newt_check.specs.Reports.{IsReport}
use Rattle.newt_check.specs.declared.report.Report.{Report}
use Rattle.newt_check.specs.declared.report.Report.TheVariants.{Clean, Damaged}
use Rattle.newt_check.specs.Lines.{IsReported, clean_line, damaged_line, layer_word, report_line}
use Rattle.newt_spec_check.specs.declared.Layer.{Layer}
use Rattle.newt_spec_graph.proofs.Lists.{none-some, some-same}
use Rattle.newt_spec_store.specs.Cost.{cost}
use Rattle.newt_spec_store.specs.Image.{all_entries}
use Rattle.newt_spec_store.specs.Store.{Store}

pub clean_text : (soups entries pages : ℕ)
    → codes "ok clean " ++ (decimal soups ++ 32 ∷ (decimal entries ++ 32 ∷ (decimal pages ++ 10 ∷ []))) ≡ clean_line soups entries pages
unfolding clean_line
clean_text soups entries pages =
    ap (λ s. codes "ok clean " ++ (s ++ 32 ∷ (decimal entries ++ 32 ∷ (decimal pages ++ 10 ∷ [])))) (sym (decimal_written soups))
    ∙ (ap (λ e. codes "ok clean " ++ (decimal_text soups ++ 32 ∷ (e ++ 32 ∷ (decimal pages ++ 10 ∷ [])))) (sym (decimal_written entries))
    ∙ ap (λ p. codes "ok clean " ++ (decimal_text soups ++ 32 ∷ (decimal_text entries ++ 32 ∷ (p ++ 10 ∷ [])))) (sym (decimal_written pages)))

pub damaged_text : (word : List ℕ) (layer : Layer) (place : ℕ) → word ≡ layer_word layer
    → codes "ok damaged " ++ (word ++ 32 ∷ (decimal place ++ 10 ∷ [])) ≡ damaged_line layer place
unfolding damaged_line
damaged_text word layer place word_is =
    ap (λ w. codes "ok damaged " ++ (w ++ 32 ∷ (decimal place ++ 10 ∷ []))) word_is
    ∙ ap (λ p. codes "ok damaged " ++ (layer_word layer ++ 32 ∷ (p ++ 10 ∷ []))) (sym (decimal_written place))

-- the line of a report that is one on an image
pub reported : (report : Report) (image text : List ℕ) → IsReport report image → text ≡ report_line report → IsReported image text
reported (Clean soups entries pages) image text is line = record {
  clean = λ s read.
      let one : is.store ≡ s = some-same is.store s (sym is.read ∙ read) in
      line ∙ (λ i. clean_line (sym is.soups_are i) (sym is.entries_are i) (sym is.pages_are i))
      ∙ ap (λ (s : Store). clean_line (length s.soups) (length (all_entries s)) (cost s)) one;
  damaged = λ none. absurd (none-some is.store (sym none ∙ is.read));
}
reported (Damaged layer place) image text is line = record {
  clean = λ s read. absurd (none-some s (sym is.no_store ∙ read));
  damaged = λ none. (record { layer = layer; place = place }, is.first, line);
}
