use Rattle.m_fixed.proofs.Products.{product_is, size_of_product}
use Rattle.m_fixed.proofs.divide.exact_product.Goals as goal

pub returns-clause-value : goal.returns-clause-value
returns-clause-value c = product_is c.args.x c.args.y c.ranges.x c.ranges.y c.requires.x_in c.requires.y_in

pub returns-clause-bound : goal.returns-clause-bound
returns-clause-bound c = rw (product_is c.args.x c.args.y c.ranges.x c.ranges.y c.requires.x_in c.requires.y_in)
    (size_of_product c.args.x c.args.y c.requires.x_in c.requires.y_in)
