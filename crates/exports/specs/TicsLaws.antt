-- What is told, from the case that was found. Assumes nothing.
use Rattle.std.specs.Prelude.{◌≡◌, List, ℕ, ◌<◌, length, Result}
use Rattle.std.proofs.Common.{sym, ap, ◌∙◌, arith}
use Rattle.tic_text.specs.Fault.{fault_number}
use Rattle.tic_parts.specs.Reading.{read_tic}
use Rattle.tic.specs.Listed.{listed_line, listed_number}
use Rattle.tic.specs.Rewriting.{Rewrites, rewritten_for}
use Rattle.tic_text.specs.declared.fault.TicFault.{TicFault}
use Rattle.tic_text.specs.declared.fault.TicFault.TheVariants.{Framing, Header, Counts, ListedLine, Footer}
use Rattle.tic_text.specs.declared.values.TicValues.{TicValues}
use Rattle.tic.specs.declared.listed.ListedPlace.{ListedPlace}
use Rattle.tic.specs.declared.listed.ListedFault.{ListedFault}
use Rattle.tic.specs.declared.rewriting.RewriteFault.{RewriteFault}
use Rattle.exports.specs.Numbers.{reading_number, rewriting_number}
use Rattle.exports.specs.Tics.{values_after, place_after, length_after, TicRead, LineListed, TicRewritten}

-- a fault's number fits an answer
pub fault_small : (fault : TicFault) → fault_number fault < 6
fault_small Framing = omega arith
fault_small Header = omega arith
fault_small Counts = omega arith
fault_small ListedLine = omega arith
fault_small Footer = omega arith

pub reading_told : (tic values : List ℕ) (reading : Result TicValues TicFault) (r : ℕ) (values' : List ℕ) → read_tic tic ≡ reading → r ≡ reading_number reading → values' ≡ values_after reading values → TicRead tic values r values'
reading_told tic values reading r values' e n v =
    record {
      answer = n ∙ sym (ap reading_number e);
      values_then = v ∙ sym (ap (λ (x : Result TicValues TicFault). values_after x values) e);
    }

pub listed_told : (tic : List ℕ) (k : ℕ) (place : List ℕ) (listed : Result ListedPlace ListedFault) (r : ℕ) (place' : List ℕ) → listed_line tic k ≡ listed → r ≡ listed_number listed → place' ≡ place_after listed place → LineListed tic k place r place'
listed_told tic k place listed r place' e n p =
    record {
      answer = n ∙ sym (ap listed_number e);
      place_then = p ∙ sym (ap (λ (x : Result ListedPlace ListedFault). place_after x place) e);
    }

pub rewriting_told : (tic out size : List ℕ) (written found : Result ℕ RewriteFault) (r : ℕ) (out' size' : List ℕ) → Rewrites tic out found out' → found ≡ written → r ≡ rewriting_number written → size' ≡ length_after written size → TicRewritten tic out size r out' size'
rewriting_told tic out size written found r out' size' w e n l =
    let same : rewritten_for tic (length out) ≡ written = sym w.answer ∙ e in
    record {
      answer = n ∙ sym (ap rewriting_number same);
      out_then = w.output;
      length_then = l ∙ sym (ap (λ (x : Result ℕ RewriteFault). length_after x size) same);
    }
