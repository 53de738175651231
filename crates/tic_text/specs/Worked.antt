-- 01's worked line on the header of a TIC. Assumes nothing.
use Rattle.std.specs.Prelude.{◌≡◌, refl, List, [], ◌∷◌, ◌++◌, ℕ, replicate}
use Rattle.lines.specs.Number.{digits_of}
use Rattle.tif.specs.declared.side.Side.TheVariants.{Debit}
use Rattle.tic_text.specs.Pieces.{joined}
use Rattle.tic_text.specs.Text.{zeros, blanks, header_text}
use Rattle.tic_text.specs.declared.values.TicHead.{TicHead}

-- of TIF100123202606150001_20000B_130001, received 20260616020000: receiver, stem and moment
abbrev pub worked_receiver : List ℕ
worked_receiver = 50 ∷ 48 ∷ 48 ∷ 48 ∷ 48 ∷ 66 ∷ []

abbrev pub worked_stem : List ℕ
worked_stem = 49 ∷ 48 ∷ 48 ∷ 49 ∷ 50 ∷ 51 ∷ 50 ∷ 48 ∷ 50 ∷ 54 ∷ 48 ∷ 54 ∷ 49 ∷ 53 ∷ 48 ∷ 48 ∷ 48 ∷ 49 ∷ []

abbrev pub worked_moment : List ℕ
worked_moment = 50 ∷ 48 ∷ 50 ∷ 54 ∷ 48 ∷ 54 ∷ 49 ∷ 54 ∷ 48 ∷ 50 ∷ 48 ∷ 48 ∷ 48 ∷ 48 ∷ []

-- acceptance 01, DEB, two lines accepted and one rejected
abbrev pub worked_head : TicHead
worked_head = record { acceptance = 1; side = Debit; accepted = record { 0 = 2 }; rejected = record { 0 = 1 } }

-- the pieces as 01 has them, joined
abbrev pub worked_header : List ℕ
worked_header =
    (48 ∷ [])
    ++ (50 ∷ 48 ∷ 48 ∷ 48 ∷ 48 ∷ 66 ∷ [])
    ++ (49 ∷ 48 ∷ 48 ∷ 49 ∷ 50 ∷ 51 ∷ [])
    ++ (84 ∷ 73 ∷ 67 ∷ 49 ∷ 48 ∷ 48 ∷ 49 ∷ 50 ∷ 51 ∷ 50 ∷ 48 ∷ 50 ∷ 54 ∷ 48 ∷ 54 ∷ 49 ∷ 53 ∷ 48 ∷ 48 ∷ 48 ∷ 49 ∷ [])
    ++ (84 ∷ 73 ∷ 70 ∷ 49 ∷ 48 ∷ 48 ∷ 49 ∷ 50 ∷ 51 ∷ 50 ∷ 48 ∷ 50 ∷ 54 ∷ 48 ∷ 54 ∷ 49 ∷ 53 ∷ 48 ∷ 48 ∷ 48 ∷ 49 ∷ [])
    ++ (50 ∷ 48 ∷ 50 ∷ 54 ∷ 48 ∷ 54 ∷ 49 ∷ 54 ∷ 48 ∷ 50 ∷ 48 ∷ 48 ∷ 48 ∷ 48 ∷ [])
    ++ (78 ∷ 79 ∷ 75 ∷ [])
    ++ (48 ∷ 48 ∷ 48 ∷ 48 ∷ 48 ∷ 48 ∷ 48 ∷ 48 ∷ 48 ∷ 48 ∷ 48 ∷ 48 ∷ 48 ∷ 48 ∷ 50 ∷ [])
    ++ (48 ∷ 48 ∷ 48 ∷ 48 ∷ 48 ∷ 48 ∷ 48 ∷ 48 ∷ 48 ∷ 48 ∷ 48 ∷ 48 ∷ 48 ∷ 48 ∷ 49 ∷ [])
    ++ (68 ∷ 69 ∷ 66 ∷ [])
    ++ (48 ∷ 48 ∷ 48 ∷ 48 ∷ 48 ∷ 48 ∷ 48 ∷ 48 ∷ 48 ∷ 48 ∷ 48 ∷ 48 ∷ 48 ∷ 48 ∷ 50 ∷ [])
    ++ (48 ∷ 48 ∷ 48 ∷ 48 ∷ 48 ∷ 48 ∷ 48 ∷ 48 ∷ 48 ∷ 48 ∷ 48 ∷ 48 ∷ 48 ∷ 48 ∷ 49 ∷ [])
    ++ (49 ∷ 51 ∷ 48 ∷ 48 ∷ 48 ∷ 49 ∷ [])
    ++ replicate 6 32
    ++ replicate 46 48
    ++ (48 ∷ 49 ∷ [])
    ++ (10 ∷ [])

pub worked_header_lem : header_text worked_receiver worked_stem worked_moment worked_head ≡ worked_header
unfolding header_text joined digits_of zeros blanks
worked_header_lem = refl
