mod NewPasses
