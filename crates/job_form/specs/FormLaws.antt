-- The laws of a job's form: its bodies lie within it. Assumes nothing.
use Rattle.std.specs.Prelude.{◌≡◌, Bool, true, false, ◌&&◌, List, ℕ, ◌+◌, ◌*◌, ◌≤◌, ◌<◌, take, drop, T, eqb, leb}
use Rattle.std.proofs.Common.{subst, sym, arith, eqb→eq, le-leb}
use Rattle.std.proofs.Math.ListN.{length, length-drop}
use Rattle.std.proofs.Math.Seq.{length-take-le}
use Rattle.std.proofs.Math.Dec.{leb→le}
use Rattle.std.proofs.lemmas.Bool.{lt-leb}
use Rattle.lines.specs.BelowLaws.{sum_zero, sum_suc, sum_within}
use Rattle.lines.specs.BoolLaws.{and_left, and_right, and_false_left}
use Rattle.job_form.specs.Form.{length_at, body_place, body_of, is_job}

holds : (b : Bool) → b ≡ true → T b
holds b e = subst T (sym e) tt

-- the four bytes of a length
pub four_bytes : (job : List ℕ) (k : ℕ) → 32 ≤ length job → k < 8 → length (take 4 (drop (4 * k) job)) ≡ 4
four_bytes job k h l = length-take-le 4 (drop (4 * k) job) (omega (arith, length-drop (4 * k) job))

-- ---- where the bodies begin
pub place_zero : (job : List ℕ) → body_place job 0 ≡ 32
unfolding body_place
place_zero job = omega (arith, sum_zero (length_at job))

pub place_suc : (job : List ℕ) (k : ℕ) → body_place job (k + 1) ≡ body_place job k + length_at job k
unfolding body_place
place_suc job k = omega (arith, sum_suc (length_at job) k)

-- ---- what is no job, and what is one
pub too_long : (job : List ℕ) → 65536 < length job → is_job job ≡ false
unfolding is_job
too_long job h = and_false_left (leb (length job) 65536) (leb 32 (length job) && eqb (body_place job 8) (length job)) (lt-leb (length job) 65536 h)

pub is_filled : (job : List ℕ) → length job ≤ 65536 → 32 ≤ length job → is_job job ≡ eqb (body_place job 8) (length job)
unfolding is_job
is_filled job h l = rw (le-leb (length job) 65536 h, le-leb 32 (length job) l)

pub too_short : (job : List ℕ) → length job ≤ 65536 → length job < 32 → is_job job ≡ false
unfolding is_job
too_short job h l = rw (le-leb (length job) 65536 h, lt-leb 32 (length job) l)

module _ (job : List ℕ) (j : is_job job ≡ true) where
  abbrev long_enough_and_filled : Bool
  long_enough_and_filled = leb 32 (length job) && eqb (body_place job 8) (length job)

  pub not_long : length job ≤ 65536
  unfolding is_job
  not_long = leb→le (length job) 65536 (holds (leb (length job) 65536) (and_left (leb (length job) 65536) long_enough_and_filled j))

  in_form : long_enough_and_filled ≡ true
  unfolding is_job
  in_form = and_right (leb (length job) 65536) long_enough_and_filled j

  pub not_short : 32 ≤ length job
  not_short = leb→le 32 (length job) (holds (leb 32 (length job)) (and_left (leb 32 (length job)) (eqb (body_place job 8) (length job)) in_form))

  pub filled : body_place job 8 ≡ length job
  filled = eqb→eq (body_place job 8) (length job) (holds (eqb (body_place job 8) (length job)) (and_right (leb 32 (length job)) (eqb (body_place job 8) (length job)) in_form))

  pub body_within : (k : ℕ) → k < 8 → body_place job k + length_at job k ≤ length job
  unfolding body_place
  body_within k l = omega (arith, sum_within (length_at job) 8 k l, filled)

  pub body_length : (k : ℕ) → k < 8 → length (body_of job k) ≤ 65536
  unfolding body_of
  body_length k l =
      let h = body_within k l in
      let m : length (take (length_at job k) (drop (body_place job k) job)) ≡ length_at job k = length-take-le (length_at job k) (drop (body_place job k) job) (omega (arith, length-drop (body_place job k) job)) in
      omega (arith, m, h, not_long)
