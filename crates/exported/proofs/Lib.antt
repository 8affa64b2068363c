mod NewComparer
