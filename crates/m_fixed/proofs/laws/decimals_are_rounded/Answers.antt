use Rattle.std.proofs.Common.{◌++◌, ◌*◌, ◌^◌, length}
use Rattle.std.specs.Str.Parse.{digits_value}
use Rattle.m_fixed.specs.Amounts.{unit}
use Rattle.m_fixed.proofs.Nearest.{sizes_are_nearest}
use Rattle.m_fixed.proofs.Reading.{pow_ten}
use Rattle.m_fixed.proofs.laws.decimals_are_rounded.Goals as goal

pub returns : goal.returns
returns c = λ whole decimals. sizes_are_nearest (digits_value 10 (whole ++ decimals) * unit) (10 ^ length decimals) (pow_ten (length decimals))
