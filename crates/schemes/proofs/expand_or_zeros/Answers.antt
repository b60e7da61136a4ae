-- The law, at what comes of any string.
use Rattle.schemes.proofs.expand_or_zeros.Goals as goal

pub returns-clause-by_index : goal.returns-clause-by_index
returns-clause-by_index g c = g.S.Scheme.laws.cipher c.or_zeros.result
