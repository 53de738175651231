-- Two results that the contract of an exported function allows are equal: the answer, and all that is lent for writing. Assumes nothing.
use Rattle.std.specs.Prelude.{◌≡◌, List, ℕ}
use Rattle.std.proofs.Common.{sym, ◌∙◌}
use Rattle.judge.specs.Call.{Call}
use Rattle.exports.specs.Calls.{CallJudged}
use Rattle.exports.specs.Tics.{TicRead, LineListed, TicRewritten}

pub one_exported_call : {c : Call} {words summary : List ℕ} {r r₂ : ℕ} {marks' words' out' summary' marks₂' words₂' out₂' summary₂' : List ℕ}
    → CallJudged c words summary r marks' words' out' summary' → CallJudged c words summary r₂ marks₂' words₂' out₂' summary₂'
    → (r ≡ r₂) × (marks' ≡ marks₂') × (words' ≡ words₂') × (out' ≡ out₂') × (summary' ≡ summary₂')
one_exported_call a b = (a.answer ∙ sym b.answer, a.marks_then ∙ sym b.marks_then, a.words_then ∙ sym b.words_then, a.out_then ∙ sym b.out_then, a.summary_then ∙ sym b.summary_then)

pub one_exported_reading : {tic values : List ℕ} {r r₂ : ℕ} {values' values₂' : List ℕ}
    → TicRead tic values r values' → TicRead tic values r₂ values₂' → (r ≡ r₂) × (values' ≡ values₂')
one_exported_reading a b = (a.answer ∙ sym b.answer, a.values_then ∙ sym b.values_then)

pub one_exported_line : {tic : List ℕ} {k : ℕ} {place : List ℕ} {r r₂ : ℕ} {place' place₂' : List ℕ}
    → LineListed tic k place r place' → LineListed tic k place r₂ place₂' → (r ≡ r₂) × (place' ≡ place₂')
one_exported_line a b = (a.answer ∙ sym b.answer, a.place_then ∙ sym b.place_then)

pub one_exported_rewriting : {tic out size : List ℕ} {r r₂ : ℕ} {out' size' out₂' size₂' : List ℕ}
    → TicRewritten tic out size r out' size' → TicRewritten tic out size r₂ out₂' size₂' → (r ≡ r₂) × (out' ≡ out₂') × (size' ≡ size₂')
one_exported_rewriting a b = (a.answer ∙ sym b.answer, a.out_then ∙ sym b.out_then, a.length_then ∙ sym b.length_then)
