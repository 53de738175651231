use Rattle.std.proofs.Common.{arith}
use Rattle.lines.specs.Number.{big_endian}
use Rattle.lines.specs.NumberLaws.{bytes_written, value_small}
use Rattle.lines.proofs.number.big_endian.Goals as goal

pub value-requires : goal.value-requires
value-requires c = bytes_written _ (λ i. omega (arith, c.type_inv.s i)) c.requires

pub returns : goal.returns
unfolding big_endian
returns c =
    let s = c.args.s.now in
    record {
      value = c.value.ensures;
      small = rw (c.value.ensures) (value_small 256 0 s _ (λ j h. omega (arith, c.type_inv.s j)));
    }
